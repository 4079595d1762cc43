pub mod Renaming
pub mod RenamingViews
pub mod Unfolded
unfoldable pub use Rattle.zf_unfold.specs.Renaming.{named}
pub use Rattle.zf_unfold.specs.Renaming.{fewer, implied, inside, instance, instances, others, over}
pub use Rattle.zf_unfold.specs.RenamingViews.{instances_of, named_by, ranges_of, universal_of}
unfoldable pub use Rattle.zf_unfold.specs.Unfolded.{IsSetNamed, IsUnfolded}
pub use Rattle.zf_unfold.specs.Unfolded.{AreAllUnfolded, AreNamed, IsBase}
