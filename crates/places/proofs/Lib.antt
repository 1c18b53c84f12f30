mod AnswerCounts
mod AnswerLemmas
mod BoundLemmas
mod CompletenessLemmas
pub mod DrillLemmas
mod EndingLemmas
mod EntryLemmas
mod ExportLemmas
mod IntakeLemmas
mod LineLemmas
mod LongLines
mod OpeningLemmas
mod PieceLemmas
pub mod ProgressLemmas
mod RefusalLemmas
mod ReportLemmas
mod RestoreLemmas
mod SaidLemmas
mod SayingLemmas
mod StopLemmas
