mod Allowed
pub mod AncestorLaws
mod Causes
mod ChildLists
pub mod ChildSlots
mod ClearedItems
mod ClearingSteps
pub mod CountedChildren
mod EntryRemoved
pub mod GoodChanges
mod GoodEntered
mod GoodInserted
mod GoodMoved
mod GoodRemoved
mod GoodRetitled
mod GoodRows
pub mod GoodStores
pub mod GoodTagged
pub mod InsertedChildren
mod InsertedRows
mod Insides
mod KeptItems
mod KeptRoots
mod KeptTags
pub mod LookedUp
mod MappedItems
pub mod MoreItems
mod MoreTags
mod PageOrder
mod PutPlaces
mod RefusalSteps
mod Remaining
mod RemovalSteps
mod RemovedChildren
mod RemovedRows
mod RootItems
pub mod StoreItems
pub mod TagItems
mod TagRows
mod TagSteps
mod TagWalks
mod TaggedRows
mod TreeLaws
mod TreeRows
mod TwoInserted
mod UntagSteps
mod UntaggedRows
mod WorkedTrees
