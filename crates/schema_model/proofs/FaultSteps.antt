-- The first fault of several tests.
use Rattle.std.proofs.Common.{◌≡◌, Bool, Option, sym, ap, subst, Result, Ok, Err, List}
use Rattle.schema_rules.specs.First.{or_else}
use Rattle.schema_reader.specs.Schemas.{DefinitionTree}
use Rattle.schema_rules.specs.Items.{ItemTree, items_of}
use Rattle.schema_rules.specs.TypeNames.{NamedKind, types_of}
use Rattle.schema_model.specs.Drafts.{TypeDraft, drafts_of}
use Rattle.schema_model.specs.declared.schema.Schema.{Schema}
use Rattle.schema_model.specs.declared.fault.SchemaFault.{SchemaFault}
use Rattle.schema_model.specs.declared.fault.SchemaFault.TheVariants.{TooMany, Repeated, Reserved, UnknownType, NoQuery, WrongKind, FloatScalar, NestedList, EmptyType, NotImplemented, BadDirective, BadDefault, Memory}
use Rattle.schema_model.specs.Faults.{FaultTree, IsFault, PassesTests, BuildsIf, TextBuildsIf}

pub told_first : (fault : SchemaFault) (a b : Option FaultTree) → IsFault fault a → IsFault fault (or_else a b)
told_first (TooMany counted) a b h = ap (λ o. or_else o b) h
told_first (Repeated place) a b h = ap (λ o. or_else o b) h
told_first (Reserved place) a b h = ap (λ o. or_else o b) h
told_first (UnknownType name) a b h = ap (λ o. or_else o b) h
told_first NoQuery a b h = ap (λ o. or_else o b) h
told_first (WrongKind place) a b h = ap (λ o. or_else o b) h
told_first (FloatScalar place) a b h = ap (λ o. or_else o b) h
told_first (NestedList place) a b h = ap (λ o. or_else o b) h
told_first (EmptyType name) a b h = ap (λ o. or_else o b) h
told_first (NotImplemented place) a b h = ap (λ o. or_else o b) h
told_first (BadDirective place) a b h = ap (λ o. or_else o b) h
told_first (BadDefault place) a b h = h
told_first Memory a b h = tt

-- the first of two tests is at fault
pub first_fails : {A : Type 0} (r : Result A SchemaFault) (fault : SchemaFault) (a b : Option FaultTree) → PassesTests r a → r ≡ Err fault → IsFault fault (or_else a b)
first_fails r fault a b h is = told_first fault a b (subst (λ x. PassesTests x a) is h)

-- the first of two tests passes
pub first_passes : {A B : Type 0} (r : Result A SchemaFault) (x : A) (s : Result B SchemaFault) (a b : Option FaultTree) → PassesTests r a → r ≡ Ok x → PassesTests s b → PassesTests s (or_else a b)
first_passes r x s a b h is next = subst (PassesTests s) (sym (ap (λ o. or_else o b) (subst (λ y. PassesTests y a) is h))) next

pub whole : (refused : Bool) (text : List DefinitionTree) (types : List NamedKind) (drafts : List TypeDraft) (items : List ItemTree) (r : Result Schema SchemaFault)
    → items ≡ items_of text → types ≡ types_of items → drafts ≡ drafts_of types text → BuildsIf refused types drafts items r → TextBuildsIf refused text r
whole refused text types drafts items r i t d h =
    let h1 = subst (λ x. BuildsIf refused types x items r) d h in
    let h2 = subst (λ x. BuildsIf refused x (drafts_of x text) items r) t h1 in
    subst (λ x. BuildsIf refused (types_of x) (drafts_of (types_of x) text) x r) i h2
