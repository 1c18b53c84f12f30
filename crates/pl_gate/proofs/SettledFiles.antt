-- Files whose journal is installed by a recovery.
use Rattle.std.proofs.Common.{◌≡◌, ℕ, true, false, List, [], ◌∷◌, length, drop, slice_index, inl, inr, refl, sym, ◌∙◌}
use Rattle.std.proofs.Common.{ap, subst, arith}
use Rattle.std.proofs.lemmas.Bool.{cases_eq}
use Rattle.std.proofs.lemmas.List.{drop_more, take_all}
use Rattle.std.proofs.lemmas.Map.Views.{exact_unsigned_eq}
use Rattle.pl_base.specs.Touched.{Change, page_size}
use Rattle.pl_desk.specs.Desk.{Torn}
use Rattle.pl_desk.specs.Overwritten.{torn_overwritten}
use Rattle.pl_gate.specs.Device.{TornIn, image_ranges, with_gate, with_images}
use Rattle.pl_gate.specs.Gate.{has_gate, is_set, journal, journal_len, journal_start, laid, pages_after}
use Rattle.pl_gate.specs.Recovery.{IsSettledAs, StandsAs}
use Rattle.pl_gate.specs.States.{IsArmed}
use Rattle.pl_gate.proofs.ArmedFiles.{StaysSet, all_in_self, installed, torn_all, torn_images}
use Rattle.pl_gate.proofs.ClosedFiles.{gate_closed, laid_closed, long}
use Rattle.pl_gate.proofs.JournalFiles.{entries_whole, gate_journal}
use Rattle.pl_gate.proofs.StagedFiles.{behind_gate, torn_gate, unset, with_gate_is}

module _ (file : List ℕ) (set : is_set file ≡ true) (gate : has_gate file ≡ true) where
  stands : (later : List ℕ) → StaysSet file later → StandsAs file later
  stands later stays = record { gate = stays.gate ∙ sym gate; laid = stays.laid }

  -- whatever the writes of the journal's pages leave
  pub torn_stands : (later : List ℕ) → TornIn (image_ranges (journal file)) file later → StandsAs file later
  torn_stands later torn = stands later (torn_all (journal file) file later set gate (all_in_self (journal file)) torn)

  -- the change that the journal holds
  abbrev change : Change
  change = record { before = 0; after = pages_after file; pages = journal file }

  armed : IsArmed change (laid file) file
  armed =
      record {
        set = set;
        journal = refl;
        after = refl;
        holds =
            record { gate = gate; begins = take_all (length (laid file)) (laid file) (omega arith) };
      }

  abbrev now : List ℕ
  now = with_images (journal file) file

  stays : StaysSet file now
  stays =
      torn_all (journal file) file now set gate (all_in_self (journal file))
      (torn_images (journal file) file
      (entries_whole (journal_len file) (journal_start file) file (gate_journal file gate set).within))

  in_place : drop page_size now ≡ laid file
  in_place = (installed change (laid file) file armed).in_place ∙ stays.laid

  cleared : (later : List ℕ) (byte : ℕ) → (byte ≡ 1 → ⊥) → later ≡ byte ∷ drop 1 now → length later ≡ length now
      → IsSettledAs file later
  cleared later byte other is len =
      let closed : is_set later ≡ false = ap is_set is ∙ unset byte (drop 1 now) other in
      let le = long now stays.gate in
      record {
        closed = closed;
        stands = record {
          gate = gate_closed later (omega (arith, len, le)) closed ∙ sym gate;
          laid =
              laid_closed later closed ∙ ap (drop page_size) is ∙ behind_gate byte now page_size (omega arith)
              ∙ in_place;
        };
      }

  -- whatever a write of the gate's byte leaves then
  pub torn_cleared : (later : List ℕ) → Torn 0 1 now later → StandsAs file later
  torn_cleared later torn =
      let le = long now stays.gate in
      let is = torn_gate now later (omega (arith, le)) torn in
      let byte = exact_unsigned_eq (slice_index now 0) 1 stays.set in
      elim (cases_eq (slice_index later 0) 1) [
        | inl one ↦
            let whole : now ≡ 1 ∷ drop 1 now =
            drop_more now 0 0 (omega (arith, le)) ∙ ap (λ (b : ℕ). b ∷ drop 1 now) byte in
            subst (StandsAs file) (whole ∙ ap (λ (b : ℕ). b ∷ drop 1 now) (sym one) ∙ sym is.0) (stands now stays)
        | inr other ↦ (cleared later (slice_index later 0) other is.0 is.1).stands
      ]

  pub settled : IsSettledAs file (with_gate 0 now)
  settled =
      let is =
      torn_gate now (with_gate 0 now) (omega (arith, long now stays.gate))
      (torn_overwritten 0 0 (0 ∷ []) now) in
      cleared (with_gate 0 now) 0 (λ (one : 0 ≡ 1). omega (arith, one)) (with_gate_is 0 now) is.1
