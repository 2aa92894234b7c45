mod PlaceLaws
mod OrderLaws
mod RepairLaws
mod MendLaws
