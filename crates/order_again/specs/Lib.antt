pub mod Again
pub mod StockText
pub mod ImpactText
