-- Files whose gate is not set, and what writes leave of them.
use Rattle.std.proofs.Common.{◌≡◌, ℕ, ◌+◌, ◌-◌, ◌≤◌, ◌==◌, true, false, ◌||◌, not, min, List, [], ◌∷◌, ◌++◌, length}
use Rattle.std.proofs.Common.{take, drop, replicate, slice_index, nat_le, refl, sym, ◌∙◌, ap, subst, arith}
use Rattle.std.proofs.lemmas.Bool.{and_from, and_parts, le-leb, leb-true}
use Rattle.std.proofs.Common.{append_assoc}
use Rattle.std.proofs.lemmas.List.{take-take, length-take, length-drop, length-replicate, get_or-replicate}
use Rattle.std.proofs.Math.ListN.{get_or-append}
use Rattle.std.proofs.Math.Seq.{take-nil}
use Rattle.pl_base.specs.Touched.{PageImage, page_size}
use Rattle.pl_desk.specs.Desk.{Torn, overwritten}
use Rattle.pl_gate.specs.Device.{TornIn, entry_ranges}
use Rattle.pl_gate.specs.Gate.{entry_size, has_gate, is_journal, is_set, laid}
use Rattle.pl_gate.specs.States.{IsClosed}
use Rattle.pl_gate.proofs.Entries.{overwritten_range}
use Rattle.pl_gate.proofs.Bytes.{drop_further, first_same, inside_same, take_shorter}

pub long : (file : List ℕ) → has_gate file ≡ true → page_size ≤ length file
long file gate =
    leb-true page_size (length file)
    (and_parts (nat_le page_size (length file)) (not (is_set file) || is_journal file) gate).0

pub gate_closed : (file : List ℕ) → page_size ≤ length file → is_set file ≡ false → has_gate file ≡ true
gate_closed file le closed =
    and_from (nat_le page_size (length file)) (not (is_set file) || is_journal file) (le-leb page_size (length file) le)
    (rw closed refl)

pub laid_closed : (file : List ℕ) → is_set file ≡ false → laid file ≡ drop page_size file
laid_closed file closed = rw closed refl

module _ (pages file : List ℕ) (closed : IsClosed pages file) where
  pub has_long : page_size ≤ length file
  has_long = long file closed.holds.gate

  pub begins : take (length pages) (drop page_size file) ≡ pages
  begins = ap (take (length pages)) (sym (laid_closed file closed.closed)) ∙ closed.holds.begins

  -- the pages lie within the file
  pub room : page_size + length pages ≤ length file
  room =
      omega (
        arith,
        has_long,
        ap length begins,
        length-take (length pages) (drop page_size file),
        length-drop page_size file,
      )

  pub closed_as : (new : List ℕ) → is_set new ≡ is_set file → page_size ≤ length new
      → take (length pages) (drop page_size new) ≡ take (length pages) (drop page_size file) → IsClosed pages new
  closed_as new same le same_pages =
      let unset = same ∙ closed.closed in
      record {
        closed = unset;
        holds = record {
          gate = gate_closed new le unset;
          begins = ap (take (length pages)) (laid_closed new unset) ∙ same_pages ∙ begins;
        };
      }

  -- a file with the same front, past the pages
  pub closed_front : (new : List ℕ) (m : ℕ) → page_size + length pages ≤ m → take m new ≡ take m file
      → IsClosed pages new
  closed_front new m le same =
      let some : 1 ≤ m = omega (arith, le) in
      let first = first_same file new m some same in
      closed_as new (ap (λ (b : ℕ). b == 1) first)
      (omega (
        arith,
        has_long,
        ap length (take_shorter file new page_size m (omega (arith, le)) same),
        length-take page_size new,
        length-take page_size file,
      ))
      (inside_same file new page_size (length pages) m le same)

  -- a write behind the pages
  pub closed_torn : (at n : ℕ) (new : List ℕ) → page_size + length pages ≤ at → Torn at n file new → IsClosed pages new
  closed_torn at n new le torn =
      let m = page_size + length pages in
      closed_front new m (omega arith)
      (sym (take-take m (min at (length file)) new (omega (arith, le, room))) ∙ ap (take m) torn.before
      ∙ take-take m at file le)

  -- a write of the gate's page behind the gate
  pub closed_torn_place : (new : List ℕ) → Torn 8 16 file new → IsClosed pages new
  closed_torn_place new torn =
      let first : take 1 new ≡ take 1 file =
      sym (take-take 1 (min 8 (length file)) new (omega (arith, has_long))) ∙ ap (take 1) torn.before
      ∙ take-take 1 8 file (omega arith) in
      closed_as new (ap (λ (b : ℕ). b == 1) (first_same file new 1 (omega arith) first))
      (omega (arith, has_long, torn.no_shorter))
      (ap (take (length pages)) (drop_further file new 24 page_size (omega arith) torn.after))

-- writes of entries behind the pages
pub closed_entries : (entries : List PageImage) (pages : List ℕ) (at : ℕ) (file new : List ℕ)
    → page_size + length pages ≤ at → IsClosed pages file → TornIn (entry_ranges at entries) file new
    → IsClosed pages new
closed_entries [] pages at file new le closed torn = subst (IsClosed pages) (sym torn) closed
closed_entries (p ∷ entries) pages at file new le closed (mid, torn, rest) =
    closed_entries entries pages (at + entry_size) mid new (omega (arith, le))
    (closed_torn pages file closed at entry_size mid le torn) rest

-- a write far behind the start of an empty file
pub closed_empty : (at : ℕ) (bytes : List ℕ) → page_size ≤ at → IsClosed [] (overwritten 0 at bytes [])
closed_empty at bytes le =
    let file = overwritten 0 at bytes [] in
    let gap = replicate {A = ℕ} (at - 0) 0 in
    let head = take {A = ℕ} at [] ++ gap in
    let head_is : head ≡ gap = ap (λ (l : List ℕ). l ++ gap) (take-nil at) in
    let len : length head ≡ at = ap length head_is ∙ length-replicate {A = ℕ} (at - 0) 0 ∙ omega arith in
    let first : slice_index file 0 ≡ 0 =
    ap (λ (l : List ℕ). slice_index l 0) (append_assoc head bytes (drop (at + length bytes) []))
    ∙ get_or-append head (bytes ++ drop (at + length bytes) []) 0 0 (omega (arith, len, le))
    ∙ ap (λ (l : List ℕ). slice_index l 0) head_is
    ∙ get_or-replicate (at - 0) 0 0 0 (omega (arith, le)) in
    let unset : is_set file ≡ false = ap (λ (b : ℕ). b == 1) first in
    record {
      closed = unset;
      holds = record {
        gate = gate_closed (overwritten 0 at bytes []) (omega (arith, le, (overwritten_range at bytes []).1)) unset;
        begins = refl;
      };
    }
