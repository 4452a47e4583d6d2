pub mod Bools
pub mod Texts
pub mod Times
pub mod Maps
pub mod Orders
pub mod Sums
pub mod Merges
pub mod Columns
pub mod Lives
pub mod OneColumn
pub mod Combines
pub mod Newest
pub mod Risings
pub mod Fronts
pub mod Cursors
pub mod CombineSteps
pub mod Rows
pub mod RowBounds
pub mod Bridges
pub mod Regroup
pub mod CutLemmas
pub mod Seeks
pub mod Histories
pub mod Ingests
pub mod Runs
pub mod ExampleCells
mod ExamplesOrder
mod ExamplesRanges
mod ExamplesMarkers
mod ExamplesStages
mod ExamplesRows
mod ExamplesHistories
mod ExamplesIngest
mod ExamplesSteps
