pub mod LineLaws
pub mod RunLaws
pub mod TextLaws
pub mod ChunkLaws
