-- Where a child comes among others: behind this one, or in front of all.
use Rattle.std.proofs.Common.{◌≡◌, ◌∙◌, ◌∷◌, ◌++◌, [], IfSome, List, None, Option, Some, ap, append_assoc, cond, eq-eqb}
use Rattle.std.proofs.Common.{refl, sym}
use Rattle.std.proofs.lemmas.Bool.{ne_eqb}
use Rattle.pl_base.specs.declared.id.Slot.{Slot}
use Rattle.pl_record.specs.ItemChanges.{put_behind}
use Rattle.pl_rail.specs.declared.owner.Owner.TheVariants.{At}
use Rattle.pl_rail.specs.Rails.{HasMember, Lists, last_of}
use Rattle.pl_rail.proofs.ChainLaws.{stands}
use Rattle.pl_rail.proofs.ListLaws.{one_list}
use Rattle.pl_rail.proofs.Rings.{Differ}
use Rattle.pl_rail.proofs.SideLaws.{numbered}
use Rattle.pl_sheets.specs.Sheets.{Pages}
use Rattle.pl_slot.specs.declared.links.Rail.TheVariants.{Children}
use Rattle.pl_rail.proofs.Walks.{last_of_added}

-- what stands in front of the child and behind it
pub record IsChildPlace (after : Option Slot) (children : List Slot) : Type 0 where
  pub front : List Slot
  pub back : List Slot
  pub is : children ≡ front ++ back
  pub last : last_of front ≡ after
  pub placed : (slot : Slot) → put_behind after slot children ≡ front ++ slot ∷ back

-- behind a member that stands once
pub put_here : (s slot : Slot) (front back : List Slot) → Differ s front
    → put_behind (Some s) slot (front ++ s ∷ back) ≡ front ++ s ∷ slot ∷ back
put_here s slot [] back apart =
    ap (λ b. cond b (s ∷ slot ∷ back) (s ∷ put_behind (Some s) slot back)) (eq-eqb s.0 s.0 refl)
put_here s slot (x ∷ front) back apart =
    ap (λ b. cond b (x ∷ slot ∷ (front ++ s ∷ back)) (x ∷ put_behind (Some s) slot (front ++ s ∷ back)))
    (ne_eqb x.0 s.0 (λ same. apart.0 (ap numbered same)))
    ∙ ap (λ l. x ∷ l) (put_here s slot front back apart.1)

pub child_place : (parent : Slot) (after : Option Slot) (children : List Slot) (pages : Pages)
    → Lists Children (At parent) children pages → IfSome after (λ s. HasMember Children (At parent) s pages)
    → IsChildPlace after children
child_place parent None children pages lists member =
    record { front = []; back = children; is = refl; last = refl; placed = λ slot. refl }
child_place parent (Some s) children pages lists member =
    let is : children ≡ member.front ++ s ∷ member.back =
    one_list Children (At parent) children (member.front ++ s ∷ member.back) pages lists member.lists in
    let stood = stands Children (At parent) member.front s member.back pages member.lists in
    record {
      front = member.front ++ s ∷ [];
      back = member.back;
      is = is ∙ sym (append_assoc member.front (s ∷ []) member.back);
      last = last_of_added member.front s;
      placed = λ slot.
          ap (put_behind (Some s) slot) is ∙ put_here s slot member.front member.back stood.front_differs
          ∙ sym (append_assoc member.front (s ∷ []) (slot ∷ member.back));
    }
