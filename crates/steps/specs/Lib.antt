-- The laws of the code that confirms (`ConfirmingLaws`), and of submit and the steps from their phases (`StepsLaws`).
pub mod ConfirmingLaws
pub mod StepsLaws
