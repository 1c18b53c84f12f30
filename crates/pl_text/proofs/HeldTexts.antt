-- Texts that slots hold: from one slot on there is one, in slots of its own.
use Rattle.std.proofs.Common.{◌≡◌, ◌∙◌, ◌==◌, ◌-◌, ◌<◌, ◌≤◌, ◌∷◌, ◌++◌, ◌||◌, [], ℕ, List, ap, arith}
use Rattle.std.proofs.Common.{eq-eqb, eqb-true, false, inl, inr, is_some, length, length-drop, None, refl}
use Rattle.std.proofs.Common.{replicate, Some, suc, sym, take, drop, true}
use Rattle.std.proofs.lemmas.Bool.{cases_Bool, or_cases, true≢false}
use Rattle.std.proofs.lemmas.List.{take-append-drop}
use Rattle.std.proofs.Math.Seq.{take-append_seam}
use Rattle.std.specs.Option.{option_and_then}
use Rattle.pl_base.specs.declared.id.Slot.{Slot}
use Rattle.pl_sheets.specs.Sheets.{Pages}
use Rattle.pl_slot.specs.declared.row.SlotRow.{SlotRow}
use Rattle.pl_slot.specs.declared.row.SlotRow.TheVariants.{Text}
use Rattle.pl_slot.specs.Arena.{first_in, is_among, is_live, live_at, live_row}
use Rattle.pl_slot.specs.Slot.{payload_size}
use Rattle.pl_slot.proofs.SlotPlaces.{no_slot}
use Rattle.pl_text.specs.Chunks.{chunk_count, chunk_row, Hold, HoldsPart}

-- ---- parts

same_used : (u v : ℕ) (a b : Slot) (p q : List ℕ) → Some (Text u a p) ≡ Some (Text v b q) → u ≡ v
same_used u v a b p q same = cc

same_next : (u v : ℕ) (a b : Slot) (p q : List ℕ) → Some (Text u a p) ≡ Some (Text v b q) → a ≡ b
same_next u v a b p q same = cc

same_payload : (u v : ℕ) (a b : Slot) (p q : List ℕ) → Some (Text u a p) ≡ Some (Text v b q) → p ≡ q
same_payload u v a b p q same = cc

abbrev padding : List ℕ → List ℕ
padding part = replicate (payload_size - length part) 0

-- a slot that holds a part has one, and names one slot
pub part_next : (n : ℕ) (p q : List ℕ) (a b : Slot) (pages : Pages) → HoldsPart n p a pages → HoldsPart n q b pages
    → a ≡ b
part_next n p q a b pages first second =
    same_next (length p) (length q) a b (p ++ padding p) (q ++ padding q) (sym first ∙ second)

pub part_bytes : (n : ℕ) (p q : List ℕ) (a b : Slot) (pages : Pages) → HoldsPart n p a pages → HoldsPart n q b pages
    → p ≡ q
part_bytes n p q a b pages first second =
    let rows : Some (chunk_row p a) ≡ Some (chunk_row q b) = sym first ∙ second in
    let long = same_used (length p) (length q) a b (p ++ padding p) (q ++ padding q) rows in
    let payload = same_payload (length p) (length q) a b (p ++ padding p) (q ++ padding q) rows in
    sym (take-append_seam p (padding p)) ∙ ap (λ (l : List ℕ). take (length p) l) payload
    ∙ ap (λ (k : ℕ). take k (q ++ padding q)) long ∙ take-append_seam q (padding q)

-- slot 0 holds none
pub not_zero : (n : ℕ) (row : SlotRow) (pages : Pages) → live_at n pages ≡ Some row → n ≡ 0 → ⊥
not_zero n row pages live zero =
    let missing : Some row ≡ None =
    sym live ∙ ap (λ k. live_at k pages) zero ∙ ap (option_and_then live_row) (no_slot 0 pages refl) in
    cc

pub number_of : (a b : Slot) → a ≡ b → a.0 ≡ b.0
number_of a b same = ap (λ (s : Slot). s.0) same

-- ---- one text from a slot on

pub record Alike (xs ys t u : List ℕ) : Type 0 where
  pub slots : xs ≡ ys
  pub texts : t ≡ u

pub one_text : (xs ys t u : List ℕ) (pages : Pages) → Hold xs t pages → Hold ys u pages → first_in xs ≡ first_in ys
    → Alike xs ys t u
one_text [] [] t u pages to_xs to_ys same = record { slots = refl; texts = to_xs ∙ sym to_ys }
one_text [] (y ∷ ys) t u pages to_xs to_ys same =
    absurd (not_zero y (chunk_row (take payload_size u) (first_in ys)) pages to_ys.1
    (sym (number_of (first_in []) (first_in (y ∷ ys)) same)))
one_text (x ∷ xs) [] t u pages to_xs to_ys same =
    absurd (not_zero x (chunk_row (take payload_size t) (first_in xs)) pages to_xs.1
    (number_of (first_in (x ∷ xs)) (first_in []) same))
one_text (x ∷ xs) (y ∷ ys) t u pages to_xs to_ys same =
    let here : x ≡ y = number_of (first_in (x ∷ xs)) (first_in (y ∷ ys)) same in
    let there : HoldsPart x (take payload_size u) (first_in ys) pages =
    ap (λ k. live_at k pages) here ∙ to_ys.1 in
    let next = part_next x (take payload_size t) (take payload_size u) (first_in xs) (first_in ys) pages to_xs.1 there in
    let part = part_bytes x (take payload_size t) (take payload_size u) (first_in xs) (first_in ys) pages to_xs.1 there in
    let rest = one_text xs ys (drop payload_size t) (drop payload_size u) pages to_xs.2 to_ys.2 next in
    record {
      slots = λ i. here i ∷ rest.slots i;
      texts =
          sym (take-append-drop payload_size t) ∙ (λ i. part i ++ rest.texts i)
          ∙ take-append-drop payload_size u;
    }

-- ---- members

pub among_first : (n : ℕ) (ns : List ℕ) → is_among n (n ∷ ns) ≡ true
among_first n ns = ap (λ b. b || is_among n ns) (eq-eqb n n refl)

pub among_rest : (m n : ℕ) (ns : List ℕ) → is_among m ns ≡ true → is_among m (n ∷ ns) ≡ true
among_rest m n ns among = elim (m == n) as (λ b. (b || is_among m ns) ≡ true) [ true ↦ refl | false ↦ among ]

-- slots that hold what they held
pub held_kept : (ns t : List ℕ) (old new : Pages)
    → ((n : ℕ) → is_among n ns ≡ true → live_at n new ≡ live_at n old) → Hold ns t old → Hold ns t new
held_kept [] t old new same held = held
held_kept (n ∷ ns) t old new same held = (
  held.0,
  same n (among_first n ns) ∙ held.1,
  held_kept ns (drop payload_size t) old new (λ m among. same m (among_rest m n ns among)) held.2,
)

pub member_live : (n : ℕ) (ns t : List ℕ) (pages : Pages) → Hold ns t pages → is_among n ns ≡ true
    → is_live n pages ≡ true
member_live n [] t pages held among = absurd (true≢false (sym among))
member_live n (m ∷ ns) t pages held among = elim (or_cases (n == m) (is_among n ns) among) [
  | inl here ↦ ap (λ k. is_live k pages) (eqb-true n m here) ∙ ap is_some held.1
  | inr further ↦ member_live n ns (drop payload_size t) pages held.2 further
]

-- what is held from a member on
record Suffix (n : ℕ) (ns : List ℕ) (pages : Pages) : Type 0 where
  rest : List ℕ
  text : List ℕ
  held : Hold (n ∷ rest) text pages
  less : length rest < length ns

suffix : (n : ℕ) (ns t : List ℕ) (pages : Pages) → Hold ns t pages → is_among n ns ≡ true → Suffix n ns pages
suffix n [] t pages held among = absurd (true≢false (sym among))
suffix n (m ∷ ns) t pages held among = elim (or_cases (n == m) (is_among n ns) among) [
  | inl here ↦
      record {
        rest = ns;
        text = t;
        held = (held.0, ap (λ k. live_at k pages) (eqb-true n m here) ∙ held.1, held.2);
        less = omega arith;
      }
  | inr further ↦
      let found = suffix n ns (drop payload_size t) pages held.2 further in
      record { rest = found.rest; text = found.text; held = found.held; less = omega (arith, found.less) }
]

-- no slot holds two parts of a text
pub held_once : (n : ℕ) (ns t : List ℕ) (pages : Pages) → Hold (n ∷ ns) t pages → is_among n ns ≡ false
held_once n ns t pages held = elim (cases_Bool (is_among n ns)) [
  | inl again ↦
      let found = suffix n ns (drop payload_size t) pages held.2 again in
      let same = one_text (n ∷ ns) (n ∷ found.rest) t found.text pages held found.held refl in
      absurd (omega (arith, ap length same.slots, found.less))
  | inr never ↦ never
]

-- ---- how many slots

one_more : (size : ℕ) → 1 ≤ size → suc (chunk_count (size - payload_size)) ≡ chunk_count size
one_more size some = omega arith

pub held_count : (ns t : List ℕ) (pages : Pages) → Hold ns t pages → length ns ≡ chunk_count (length t)
held_count [] t pages held = sym (ap (λ (l : List ℕ). chunk_count (length l)) held)
held_count (n ∷ ns) t pages held =
    ap suc (held_count ns (drop payload_size t) pages held.2)
    ∙ ap (λ k. suc (chunk_count k)) (length-drop payload_size t) ∙ one_more (length t) held.0
