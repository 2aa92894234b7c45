pub mod NamedSets
mod NameBytes
mod NameFaults
pub mod Faultless
mod DigitRoom
pub mod Nodes
pub mod Shapes
pub mod LeafLaws
pub mod PartLaws
mod PaddingLemmas
mod TableLemmas
pub mod TablePlaces
pub mod PlacesLaws
pub mod NamesText
pub mod PickLaws
