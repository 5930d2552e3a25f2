pub mod CheckoutLaws
pub mod PlanLaws
pub mod PlaceLaws
pub mod AnewLaws
pub mod GivenLaws
