-- The texts of refusals are one line.
use Rattle.std.proofs.Common.{◌≡◌, ◌<◌, inl, inr, ℕ, zero, suc, ◌/◌, ◌%◌, ◌==◌, Bool, true, false, not, ◌&&◌, if◌then◌else◌, ℤ, pos, negsuc, List, [], ◌∷◌, codes, refl, ap₂, subst, arith}
use Rattle.std.specs.Char.{is_ascii_control}
use Rattle.std.specs.Fmt.{digit_glyph, digits_onto, digits, decimal, signed_decimal}
use Rattle.std.proofs.lemmas.Bool.{cases_lt, and_parts}
use Rattle.gql_base.specs.declared.lexical.lexing.LexFault.{LexFault}
use Rattle.gql_base.specs.declared.lexical.lexing.LexFault.TheVariants as lexical
use Rattle.gql_base.specs.printing.OneLine.{shown_in_line, is_one_line}
use Rattle.gql_base.proofs.PrintingLaws.OneLine.{shown_is_one_line, lines_joined}
use Rattle.document_reader.specs.declared.document.DocFault.{DocFault}
use Rattle.document_reader.specs.declared.document.DocFault.TheVariants as document
use Rattle.document_reader.specs.declared.picking.PickFault.{PickFault}
use Rattle.document_reader.specs.declared.picking.PickFault.TheVariants as pick
use Rattle.document_rules.specs.declared.rule.Rule.{Rule as RuleName}
use Rattle.document_rules.specs.declared.rule.Rule.TheVariants.{RepeatedName, LoneAnonymous, Subscription, NoRoot, UnknownFragment, FragmentCycle, FragmentOn, UnknownDirective, CustomDirective, DirectiveUse, Introspection, UnknownField, LeafWithSelection, CompositeWithout, RepeatedVariable, VariableType, UndefinedVariable, UnknownArgument, RepeatedArgument, VariablePlace}
use Rattle.document_rules.specs.declared.rule.RuleFault.{RuleFault}
use Rattle.document_rules.specs.declared.rule.RuleFault.TheVariants as rule
use Rattle.document_rules.specs.Names.{rule_number, rule_name}
use Rattle.variable_coercion.specs.declared.faults.CoerceFault.{CoerceFault}
use Rattle.variable_coercion.specs.declared.faults.CoerceFault.TheVariants as variable
use Rattle.variable_coercion.specs.declared.faults.ArgFault.{ArgFault}
use Rattle.variable_coercion.specs.declared.faults.ArgFault.TheVariants as argument
use Rattle.cost_directives.specs.declared.sizes.SizeFault.{SizeFault}
use Rattle.cost_directives.specs.declared.sizes.SizeFault.TheVariants as size
use Rattle.merged_selections.specs.declared.fault.PlanFault.{PlanFault}
use Rattle.merged_selections.specs.declared.fault.PlanFault.TheVariants as plan
use Rattle.acceptance.specs.declared.fault.Refusal.{Refusal}
use Rattle.acceptance.specs.declared.fault.Refusal.TheVariants.{Document, Pick, Rule, Variable, Plan, Bound}
use Rattle.acceptance.specs.Texts.{placed, beside, naming, lexical_text, document_text, pick_text, rule_text, variable_text, argument_text, size_text, plan_text, costly_text, refusal_text}

-- ---- numbers

abbrev plain_below : ℕ → Bool
plain_below zero = true
plain_below (suc n) = not (is_ascii_control (digit_glyph false n)) && plain_below n

plain_at : (n : ℕ) → plain_below n ≡ true → (d : ℕ) → d < n → not (is_ascii_control (digit_glyph false d)) ≡ true
plain_at zero all d h = absurd (omega (arith, h))
plain_at (suc n) all d h =
    let parts = and_parts (not (is_ascii_control (digit_glyph false n))) (plain_below n) all in
    elim (cases_lt d n) [
      | inl below ↦ plain_at n parts.1 d below
      | inr here ↦ let same : n ≡ d = omega (arith, h, here) in subst (λ k. not (is_ascii_control (digit_glyph false k)) ≡ true) same parts.0
    ]

glyph_before : (n : ℕ) (acc : List ℕ) → is_one_line acc ≡ true → is_one_line (digit_glyph false (n % 10) ∷ acc) ≡ true
unfolding is_one_line
glyph_before n acc e = ap₂ (λ (a b : Bool). a && b) (plain_at 10 refl (n % 10) (omega arith)) e

digits_plain : (k n : ℕ) (acc : List ℕ) → is_one_line acc ≡ true → is_one_line (digits_onto k 10 false n acc) ≡ true
digits_plain zero n acc e = e
digits_plain (suc k) n acc e = by (n / 10 == 0) (glyph_before n acc e) (digits_plain k (n / 10) (digit_glyph false (n % 10) ∷ acc) (glyph_before n acc e))
  where
    by : (b : Bool) → is_one_line (digit_glyph false (n % 10) ∷ acc) ≡ true → is_one_line (digits_onto k 10 false (n / 10) (digit_glyph false (n % 10) ∷ acc)) ≡ true
        → is_one_line (if b then digit_glyph false (n % 10) ∷ acc else digits_onto k 10 false (n / 10) (digit_glyph false (n % 10) ∷ acc)) ≡ true
    by true here later = here
    by false here later = later

nothing_plain : is_one_line [] ≡ true
unfolding is_one_line
nothing_plain = refl

decimal_plain : (n : ℕ) → is_one_line (decimal n) ≡ true
unfolding digits
decimal_plain n = digits_plain 64 n [] nothing_plain

one_more : (c : ℕ) (text : List ℕ) → not (is_ascii_control c) ≡ true → is_one_line text ≡ true → is_one_line (c ∷ text) ≡ true
unfolding is_one_line
one_more c text p e = ap₂ (λ (a b : Bool). a && b) p e

signed_plain : (z : ℤ) → is_one_line (signed_decimal z) ≡ true
signed_plain (pos n) = decimal_plain n
signed_plain (negsuc n) = one_more 45 (decimal (suc n)) refl (decimal_plain (suc n))

-- ---- pieces

beside_plain : (text other : List ℕ) → is_one_line text ≡ true → is_one_line other ≡ true → is_one_line (beside text other) ≡ true
beside_plain text other p q = lines_joined text (32 ∷ other) p (one_more 32 other refl q)

placed_plain : (text : List ℕ) (at : ℕ) → is_one_line text ≡ true → is_one_line (placed text at) ≡ true
placed_plain text at p = beside_plain text (decimal at) p (decimal_plain at)

naming_plain : (text name : List ℕ) → is_one_line text ≡ true → is_one_line (naming text name) ≡ true
naming_plain text name p = beside_plain text (shown_in_line name) p (shown_is_one_line name)

-- ---- faults

lexical_plain : (fault : LexFault) → is_one_line (lexical_text fault) ≡ true
unfolding is_one_line
lexical_plain (lexical.BadChar at) = placed_plain (codes "1 Lex 1 BadChar") at refl
lexical_plain (lexical.BadNumber at) = placed_plain (codes "1 Lex 2 BadNumber") at refl
lexical_plain (lexical.OpenText at) = placed_plain (codes "1 Lex 3 OpenText") at refl
lexical_plain (lexical.BadEscape at) = placed_plain (codes "1 Lex 4 BadEscape") at refl
lexical_plain (lexical.FloatValue at) = placed_plain (codes "1 Lex 5 FloatValue") at refl
lexical_plain lexical.Memory = refl

document_plain : (fault : DocFault) → is_one_line (document_text fault) ≡ true
unfolding is_one_line
document_plain (document.Lex fault) = lines_joined (codes "document ") (lexical_text fault) refl (lexical_plain fault)
document_plain (document.Unexpected at) = placed_plain (codes "document 2 Unexpected") at refl
document_plain (document.TooDeep at) = placed_plain (codes "document 3 TooDeep") at refl
document_plain document.Memory = refl

pick_plain : (fault : PickFault) → is_one_line (pick_text fault) ≡ true
unfolding is_one_line
pick_plain pick.NoOperation = refl
pick_plain (pick.Several count) = placed_plain (codes "pick 2 Several") count refl
pick_plain pick.NotThere = refl

name_plain : (name : RuleName) → is_one_line (rule_name name) ≡ true
unfolding is_one_line
name_plain RepeatedName = refl
name_plain LoneAnonymous = refl
name_plain Subscription = refl
name_plain NoRoot = refl
name_plain UnknownFragment = refl
name_plain FragmentCycle = refl
name_plain FragmentOn = refl
name_plain UnknownDirective = refl
name_plain CustomDirective = refl
name_plain DirectiveUse = refl
name_plain Introspection = refl
name_plain UnknownField = refl
name_plain LeafWithSelection = refl
name_plain CompositeWithout = refl
name_plain RepeatedVariable = refl
name_plain VariableType = refl
name_plain UndefinedVariable = refl
name_plain UnknownArgument = refl
name_plain RepeatedArgument = refl
name_plain VariablePlace = refl

rule_plain : (fault : RuleFault) → is_one_line (rule_text fault) ≡ true
unfolding is_one_line
rule_plain (rule.Broken name at) =
    placed_plain (beside (placed (codes "rule") (rule_number name)) (rule_name name)) at
    (beside_plain (placed (codes "rule") (rule_number name)) (rule_name name) (placed_plain (codes "rule") (rule_number name) refl) (name_plain name))
rule_plain rule.Memory = refl

variable_plain : (fault : CoerceFault) → is_one_line (variable_text fault) ≡ true
unfolding is_one_line
variable_plain (variable.Missing name) = naming_plain (codes "variable 1 Missing") name refl
variable_plain (variable.BadValue path) = naming_plain (codes "variable 2 BadValue") path refl
variable_plain (variable.TooLarge name) = naming_plain (codes "variable 3 TooLarge") name refl
variable_plain variable.Memory = refl

argument_plain : (fault : ArgFault) → is_one_line (argument_text fault) ≡ true
unfolding is_one_line
argument_plain (argument.Missing name) = naming_plain (codes "1 Missing") name refl
argument_plain (argument.BadValue name) = naming_plain (codes "2 BadValue") name refl
argument_plain (argument.TooLarge name) = naming_plain (codes "3 TooLarge") name refl
argument_plain argument.Memory = refl

size_plain : (fault : SizeFault) → is_one_line (size_text fault) ≡ true
unfolding is_one_line
size_plain (size.SlicingCount count) = placed_plain (codes "1 SlicingCount") count refl
size_plain (size.NegativeSlice value) = beside_plain (codes "2 NegativeSlice") (signed_decimal value) refl (signed_plain value)

plan_plain : (fault : PlanFault) → is_one_line (plan_text fault) ≡ true
unfolding is_one_line
plan_plain (plan.Argument at fault) = beside_plain (naming (codes "plan 1 Argument") at) (argument_text fault) (naming_plain (codes "plan 1 Argument") at refl) (argument_plain fault)
plan_plain (plan.Conflict at) = naming_plain (codes "plan 2 Conflict") at refl
plan_plain (plan.Size at fault) = beside_plain (naming (codes "plan 3 Size") at) (size_text fault) (naming_plain (codes "plan 3 Size") at refl) (size_plain fault)
plan_plain (plan.NoPossibleType at) = naming_plain (codes "plan 4 NoPossibleType") at refl
plan_plain plan.TooLarge = refl
plan_plain (plan.TooDeep at) = naming_plain (codes "plan 6 TooDeep") at refl
plan_plain plan.Memory = refl

costly_plain : (types fields : Bool) → is_one_line (costly_text types fields) ≡ true
unfolding is_one_line
costly_plain true true = refl
costly_plain true false = refl
costly_plain false fields = refl

pub refusal_plain : (refusal : Refusal) → is_one_line (refusal_text refusal) ≡ true
refusal_plain (Document fault) = document_plain fault
refusal_plain (Pick fault) = pick_plain fault
refusal_plain (Rule fault) = rule_plain fault
refusal_plain (Variable fault) = variable_plain fault
refusal_plain (Plan fault) = plan_plain fault
refusal_plain (Bound fault) = costly_plain fault.types fault.fields
