-- Words of the crates below, passed on to those above, which so need no entry for the crates where these are at home.
pub use Rattle.local_introspection.specs.declared.walk.Local.{Local}
