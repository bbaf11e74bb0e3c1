use Rattle.std.proofs.Common.{sym, ap, ◌∙◌, map}
use Rattle.client_files.proofs.ClientLines.{cut_words, finds, finds_none}
use Rattle.client_files.proofs.client_line.client_in.Goals as goal

pub returns-in-Some-clause-some : goal.returns-in-Some-clause-some
returns-in-Some-clause-some c =
    let are = sym (cut_words c.args.line.now _ c.in_ok-words.ensures) ∙ (sym (ap (map (λ word. word.now)) c.deref.ensures.value) ∙ c.in-Some.ensures.some) in
    finds c.args.version c.args.line.now _ _ _ _ are c.client_of.result c.client_of.ensures.some

pub returns-in-Some-clause-none : goal.returns-in-Some-clause-none
returns-in-Some-clause-none c =
    let are = sym (cut_words c.args.line.now _ c.in_ok-words.ensures) ∙ (sym (ap (map (λ word. word.now)) c.deref.ensures.value) ∙ c.in-Some.ensures.some) in
    finds_none c.args.version c.args.line.now _ _ _ _ are c.client_of.result c.client_of.ensures.none

pub returns-clause-none : goal.returns-clause-none
returns-clause-none c = λ client named. c.in-None.ensures.none named.key named.types named.fields named.carry (ap (map (λ word. word.now)) c.deref.ensures.value ∙ (cut_words c.args.line.now _ c.in_ok-words.ensures ∙ named.words))
