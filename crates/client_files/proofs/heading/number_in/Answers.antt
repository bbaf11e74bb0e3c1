use Rattle.std.proofs.Common.{refl, subst, sym}
use Rattle.client_files.specs.Headings.{BeginsNumber}
use Rattle.client_files.proofs.Numbers.{begins_number, number_some, number_above, number_none}
use Rattle.client_files.proofs.ClientLines.{true_not}
use Rattle.client_files.proofs.heading.number_in.Goals as goal

pub returns-then-begins_number-clause-some : goal.returns-then-begins_number-clause-some
returns-then-begins_number-clause-some c = rw (c.ok.ensures.value) (number_some c.args.text.now c.parse.result c.parse.ensures.value.0 (subst BeginsNumber c.as_bytes.ensures.value (c.if-begins_number.ensures.0 refl)))

pub returns-then-begins_number-clause-above : goal.returns-then-begins_number-clause-above
returns-then-begins_number-clause-above c = rw (c.ok.ensures.value) (number_above c.args.text.now c.parse.result c.parse.ensures.value.0 (subst BeginsNumber c.as_bytes.ensures.value (c.if-begins_number.ensures.0 refl)))

pub returns-then-begins_number-clause-none : goal.returns-then-begins_number-clause-none
returns-then-begins_number-clause-none c = rw (c.ok.ensures.value) (number_none c.args.text.now c.parse.result c.parse.ensures.value.0)

pub returns-else-begins_number-clause-none : goal.returns-else-begins_number-clause-none
returns-else-begins_number-clause-none c = λ number above small is. true_not (c.if-begins_number.ensures.1 (subst BeginsNumber (sym c.as_bytes.ensures.value) (begins_number number c.args.text.now above small is)))
