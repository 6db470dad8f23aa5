pub mod Variable
