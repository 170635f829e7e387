-- Spans, indices, points and codes of the grids.
pub mod Bits32
pub mod Codes
pub mod Indices
pub mod NearestPoints
pub mod Points
pub mod SameCode
pub mod SpanBounds
pub mod Spans
pub mod ZoneIndices
