use Rattle.std.proofs.Common.{◌≡◌, ◌==◌, ◌&&◌, ◌∙◌, Bool, ap, eq-eqb, map, rules, sym, tests}
use Rattle.std.proofs.Math.Bool.{beq}
use Rattle.std.specs.Bool.{Decides}
use Rattle.std.specs.Cmp.{booleans_Decides}
use Rattle.std.specs.Ordering.{int_eq}
use Rattle.std.proofs.lemmas.Bool.{and_from, and_parts, eqb-true}
use Rattle.std.proofs.lemmas.Bool.Decides.{Decides-int_eq}
use Rattle.std.proofs.lemmas.Iterator.{YieldsList-from_map, YieldsList-from_slice, items_from_collect}
use Rattle.std.proofs.lemmas.Slice.Eq.{slice_eq-Decides}
use Rattle.pl_base.specs.declared.row.Mark.{Mark}
use Rattle.pl_record.specs.declared.rows.Place.{Place}
use Rattle.pl_sound.proofs.right.are_marks.Goals as goal

-- two marks are the same
abbrev are_equal : Mark → Mark → Bool
are_equal a b =
    int_eq a.frecency b.frecency && ((a.count == b.count) && (beq a.typed b.typed && beq a.hidden b.hidden))

equal : (a b : Mark) → Decides (are_equal a b) (a ≡ b)
equal a b = (
  λ same.
      let first =
      and_parts (int_eq a.frecency b.frecency)
      ((a.count == b.count) && (beq a.typed b.typed && beq a.hidden b.hidden)) same in
      let second = and_parts (a.count == b.count) (beq a.typed b.typed && beq a.hidden b.hidden) first.1 in
      let third = and_parts (beq a.typed b.typed) (beq a.hidden b.hidden) second.1 in
      let frecency : a.frecency ≡ b.frecency = (Decides-int_eq a.frecency b.frecency).0 first.0 in
      let count : a.count ≡ b.count = eqb-true a.count b.count second.0 in
      let typed : a.typed ≡ b.typed = (booleans_Decides a.typed b.typed).0 third.0 in
      let hidden : a.hidden ≡ b.hidden = (booleans_Decides a.hidden b.hidden).0 third.1 in
      λ i. record { frecency = frecency i; count = count i; typed = typed i; hidden = hidden i },
  λ same.
      and_from (int_eq a.frecency b.frecency)
      ((a.count == b.count) && (beq a.typed b.typed && beq a.hidden b.hidden))
      ((Decides-int_eq a.frecency b.frecency).1 (ap (λ (m : Mark). m.frecency) same))
      (and_from (a.count == b.count) (beq a.typed b.typed && beq a.hidden b.hidden)
      (eq-eqb a.count b.count (ap (λ (m : Mark). m.count) same))
      (and_from (beq a.typed b.typed) (beq a.hidden b.hidden)
      ((booleans_Decides a.typed b.typed).1 (ap (λ (m : Mark). m.typed) same))
      ((booleans_Decides a.hidden b.hidden).1 (ap (λ (m : Mark). m.hidden) same)))),
)

pub returns : goal.returns
returns c =
    let mark : Place → Mark = λ p. p.mark in
    let places = c.args.places.now in
    let kept : c.in_ok-kept.kept.items ≡ map mark places =
    rw c.in_ok-kept.was at (items_from_collect c.collect.result c.collect.ensures.ran
    (YieldsList-from_map _ mark (YieldsList-from_slice places cc) c.map.ensures.closure
    (λ x r q k. search (rules, tests)))) in
    let is : c.as_slice.result.now ≡ map mark places = c.as_slice.ensures.value ∙ kept in
    let decides = slice_eq-Decides equal c.as_slice.result.now c.args.marks.now c.eq.result c.eq.ensures in
    (λ same. sym (decides.0 same) ∙ is, λ same. decides.1 (is ∙ sym same))
