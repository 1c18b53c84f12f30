mod Bare
mod FirstStores
pub mod Generations
mod IdlePages
mod ImportedBare
mod KeptNodes
mod ListAdded
mod NodeAdded
mod OneMore
mod OwnTags
mod PagesMore
mod PileLaws
mod PlainNodes
pub mod PlainTrees
mod PreorderLaws
mod Preorders
mod RestStays
pub mod Returned
mod ShownNodes
mod Spines
mod TagMarks
mod TagsBack
mod TagsBelow
mod TagsKnown
mod TagsMade
mod TagsOnce
