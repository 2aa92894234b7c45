pub mod PeriodLaws
pub mod MeetLaws
pub mod BookLaws
pub mod StepLaws
