pub mod View
pub mod CurveLine
