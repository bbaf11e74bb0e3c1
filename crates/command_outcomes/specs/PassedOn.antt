-- Words of the crates below, passed on to those above, which so need no entry for the crates where these are at home.
pub use Rattle.local_introspection.specs.Counted.{answer_counted}
pub use Rattle.local_introspection.specs.declared.answering.Counted.{Counted}
pub use Rattle.local_introspection.specs.AskedHere.{IsAnsweredHere, IsRefusedHere, asked_at}
pub use Rattle.local_introspection.specs.LocalAnswers.{IsAnsweredWith, IsRefusedFor}
pub use Rattle.local_introspection.specs.LocalRequests.{LocalRequest}
pub use Rattle.local_introspection.specs.LocalTexts.{local_text}
pub use Rattle.local_introspection.specs.declared.facts.Facts.{Facts}
pub use Rattle.local_introspection.specs.declared.fault.LocalFault.{LocalFault}
pub use Rattle.local_introspection.specs.declared.fault.LocalFault.TheVariants.{Memory, Mixed, Rule}
pub use Rattle.local_introspection.specs.declared.walk.Local.{Local}
