pub mod ClaimCases
