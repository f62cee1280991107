pub mod MemberLemmas
pub mod OrderLemmas
pub mod PairLemmas
pub mod PathLemmas
pub mod ShareLemmas
pub mod SizeLemmas
pub mod SumLemmas
