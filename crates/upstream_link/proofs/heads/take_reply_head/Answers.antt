use Rattle.std.proofs.Common.{◌≡◌, ◌++◌, ◌∷◌, [], inr, sym, subst, arith, length, drop, ◌∙◌, refl, false, append_assoc}
use Rattle.std.proofs.lemmas.List.{append-nil, length-append}
use Rattle.http.specs.StatusCode.{IsInClass}
use Rattle.upstream_link.specs.Received.{Brings, is_failure}
use Rattle.upstream_link.specs.ReplyHeads.{HeadsTo, HasHead, IsInterim, after_head}
use Rattle.upstream_link.proofs.Fronts.{heads_grow, heads_more, heads_none, head_fault}
use Rattle.upstream_link.proofs.Receiving.{brings_none, brings_more, received_on}
use Rattle.upstream_link.proofs.heads.take_reply_head.Goals as goal

pub heads-init : goal.heads-init
heads-init g c = (
  omega arith,
  c.requires.dialled,
  omega arith,
  refl,
  ([], [], brings_none (g.W.Wire.coming c.args.wire.now, g.W.Wire.log c.args.wire.now), subst (λ l. HeadsTo l [] c.args.kept.now) (sym (append-nil c.args.kept.now)) (heads_none c.args.kept.now), refl),
)

pub returns-in-Err-clause-exact : goal.returns-in-Err-clause-exact
returns-in-Err-clause-exact g c =
    let i = c.heads.invariant.4 in
    let kept = c.args.kept.now in
    let second = c.in-Err.ensures.exact in
    received_on kept c.heads.kept (g.W.Wire.coming c.args.wire.now, g.W.Wire.log c.args.wire.now) (g.W.Wire.coming c.heads.wire, g.W.Wire.log c.heads.wire) (g.W.Wire.coming c.take_head.new.wire, g.W.Wire.log c.take_head.new.wire) (is_failure c.in-Err.fault) (is_failure c.in-Err.fault) i.0 i.2 second refl
    (λ ended k. (
      i.1,
      c.heads.kept ++ second.bytes,
      heads_grow (kept ++ i.0) i.1 c.heads.kept second.bytes i.3,
      omega (arith, i.4, c.heads.invariant.0),
      head_fault (length i.1) (c.heads.kept ++ second.bytes) c.take_head.new.kept ended c.in-Err.fault k,
    ))

pub returns-then-passed-eq8-clause-exact : goal.returns-then-passed-eq8-clause-exact
returns-then-passed-eq8-clause-exact g c =
    let i = c.heads.invariant.4 in
    let kept = c.args.kept.now in
    let second = c.in-Ok.ensures.exact in
    received_on kept c.heads.kept (g.W.Wire.coming c.args.wire.now, g.W.Wire.log c.args.wire.now) (g.W.Wire.coming c.heads.wire, g.W.Wire.log c.heads.wire) (g.W.Wire.coming c.take_head.new.wire, g.W.Wire.log c.take_head.new.wire) false false i.0 i.2 second refl
    (λ ended k. (
      i.1,
      c.heads.kept ++ second.bytes,
      heads_grow (kept ++ i.0) i.1 c.heads.kept second.bytes i.3,
      omega (arith, i.4, c.heads.invariant.0),
      inr (k.0.h, k.0.has, subst (IsInClass 100) k.0.code_is (c.is_interim.ensures.0 c.if-is_interim.true), i.4 ∙ c.if-passed-eq8.true),
    ))

pub returns-else-is_interim-clause-exact : goal.returns-else-is_interim-clause-exact
returns-else-is_interim-clause-exact g c =
    let i = c.heads.invariant.4 in
    let kept = c.args.kept.now in
    let second = c.in-Ok.ensures.exact in
    received_on kept c.heads.kept (g.W.Wire.coming c.args.wire.now, g.W.Wire.log c.args.wire.now) (g.W.Wire.coming c.heads.wire, g.W.Wire.log c.heads.wire) (g.W.Wire.coming c.take_head.new.wire, g.W.Wire.log c.take_head.new.wire) false false i.0 i.2 second refl
    (λ ended k. record {
      h = k.0.h;
      at = (
        i.1,
        subst (λ l. HeadsTo ((kept ++ i.0) ++ second.bytes) i.1 l) (sym k.1) (heads_grow (kept ++ i.0) i.1 c.heads.kept second.bytes i.3),
        omega (arith, i.4, c.heads.invariant.0),
        subst (λ l. HasHead l k.0.h) (sym k.1) k.0.has,
        λ (interim : IsInterim k.0.h). absurd (cc (c.if-is_interim.false, c.is_interim.ensures.1 (subst (IsInClass 100) (sym k.0.code_is) interim))),
      );
      len_is = k.0.len_is;
      code_is = k.0.code_is;
      framing_is = k.0.framing_is;
      goes_on = k.2;
    })

pub heads-preserved : goal.heads-preserved
heads-preserved g c =
    let i = c.heads.invariant.4 in
    let kept = c.args.kept.now in
    let second = c.in-Ok.ensures.exact in
    let k = second.says in
    let h = k.0.h in
    let here = c.heads.kept ++ second.bytes in
    let interim : IsInterim h = subst (IsInClass 100) k.0.code_is (c.is_interim.ensures.0 c.if-is_interim.true) in
    let left : after_head h here ≡ c.pass.new.self = (λ j. drop (sym k.0.len_is j) (sym k.1 j)) ∙ sym c.pass.ensures in (
      omega (arith, c.heads.invariant.0, c.if-passed-eq8.false),
      c.in-Ok.ensures.up,
      c.in-Ok.ensures.still (λ e. cc e) ∙ c.heads.invariant.2,
      c.in-Ok.ensures.dials ∙ c.heads.invariant.3,
      (
        i.0 ++ second.bytes,
        i.1 ++ h ∷ [],
        brings_more (g.W.Wire.coming c.args.wire.now, g.W.Wire.log c.args.wire.now) (g.W.Wire.coming c.heads.wire, g.W.Wire.log c.heads.wire) (g.W.Wire.coming c.take_head.new.wire, g.W.Wire.log c.take_head.new.wire) i.0 second.bytes false false i.2 (subst (λ e. Brings (g.W.Wire.coming c.heads.wire, g.W.Wire.log c.heads.wire) second.bytes e false (g.W.Wire.coming c.take_head.new.wire, g.W.Wire.log c.take_head.new.wire)) k.2 second.brings),
        subst (λ l. HeadsTo l (i.1 ++ h ∷ []) c.pass.new.self) (append_assoc kept i.0 second.bytes)
            (subst (HeadsTo ((kept ++ i.0) ++ second.bytes) (i.1 ++ h ∷ [])) left (heads_more ((kept ++ i.0) ++ second.bytes) i.1 h here (heads_grow (kept ++ i.0) i.1 c.heads.kept second.bytes i.3) k.0.has interim)),
        omega (arith, i.4, length-append i.1 (h ∷ [])),
      ),
    )
