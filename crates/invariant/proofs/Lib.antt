pub mod ClauseLaws
pub mod LiteralLoop
pub mod LineLoop
pub mod Begun
pub mod RowLoop
pub mod PlaLaws
pub mod ColumnLoop
pub mod Negated
