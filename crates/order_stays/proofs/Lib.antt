mod ClashLaws
mod FindLaws
mod StayLaws
