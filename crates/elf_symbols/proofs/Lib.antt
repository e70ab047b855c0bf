mod EndedNames
mod Rows
mod SectionFacts
mod FoundRanges
mod LastZeros
