mod States
mod CodeRuns
