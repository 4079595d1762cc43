pub mod Strings
pub mod Laws
unfoldable pub use Rattle.zf_format.specs.Strings.{string_text}
pub use Rattle.zf_format.specs.Strings.{hidden_text, is_hidden, is_marked, string_byte}
pub use Rattle.zf_format.specs.Laws.{OneString}
