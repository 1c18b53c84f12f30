mod EntryWalk
mod SameMembers
mod TagViews
mod TaggedRows
