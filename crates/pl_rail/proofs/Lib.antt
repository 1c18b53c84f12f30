pub mod CallLaws
pub mod ChainLaws
pub mod ListLaws
pub mod MemberCount
pub mod Membership
mod RailRows
pub mod Rings
pub mod SideLaws
pub mod Walks
