pub mod OneRuns
