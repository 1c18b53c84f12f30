-- Which refusals an import and a restore have.
use Rattle.std.proofs.Common.{◌≡◌, ◌∙◌, ◌<◌, ◌&&◌, Bool, true, false, ℕ, Option, Some, None, ap, refl, subst, sym}
use Rattle.std.proofs.Common.{if◌then◌else◌, nat_lt}
use Rattle.std.proofs.lemmas.Bool.{ltb-true, true≢false}
use Rattle.std.proofs.lemmas.Option.{same_Some}
use Rattle.pl_base.specs.Good.{end_of_ids}
use Rattle.pl_base.specs.Live.{live_slots, slot_limit}
use Rattle.pl_base.specs.Store.{Store}
use Rattle.pl_base.specs.declared.id.IdKind.TheVariants.{Page, Item}
use Rattle.pl_base.specs.declared.refusal.Refusal.{Refusal}
use Rattle.pl_base.specs.declared.refusal.Refusal.TheVariants.{Full, NoIds, TooMany}
use Rattle.pl_graft.specs.Import.{imported, most_rows, row_count}
use Rattle.pl_graft.specs.Restored.{restored}
use Rattle.pl_intake.specs.Intake.{tree_command}
use Rattle.pl_intake.specs.declared.intake.Intake.{Intake}
use Rattle.pl_intake.specs.declared.intake.Intake.TheVariants.{Import, Restore}
use Rattle.pl_nbread.specs.declared.tree.Tree.{Tree}
use Rattle.pl_step.specs.declared.command.Command.{Command}
use Rattle.pl_step.specs.declared.reply.Reply.{Reply}
use Rattle.pl_step.specs.declared.reply.Reply.TheVariants.{Refused}
use Rattle.pl_step.specs.Refused.{is_refused}
use Rattle.pl_step.specs.Step.{import_refusal, import_reply, is_full, perform, restore_reply, unless_refused}
use Rattle.places.specs.Ending.{RefusesIntake}
use Rattle.places.specs.TakingIn.{IsIntake}

-- the first of its causes
cause : (rows pages items full : Bool) (count slots : ℕ) (refusal : Refusal)
    → (rows ≡ true → most_rows < count) → (full ≡ true → slot_limit < slots)
    → (if rows then Some (TooMany count) else if pages then Some (NoIds Page) else
    if items then Some (NoIds Item) else if full then Some (Full slots) else None) ≡ Some refusal
    → RefusesIntake refusal
cause true pages items full count slots refusal many over is =
    subst RefusesIntake (same_Some (TooMany count) refusal is) (many refl)
cause false true items full count slots refusal many over is =
    subst RefusesIntake (same_Some (NoIds Page) refusal is) tt
cause false false true full count slots refusal many over is =
    subst RefusesIntake (same_Some (NoIds Item) refusal is) tt
cause false false false true count slots refusal many over is =
    subst RefusesIntake (same_Some (Full slots) refusal is) (over refl)
cause false false false false count slots refusal many over is = absurd (cc)

-- a reply that refuses tells the cause, where what was done tells none
told_cause : (o : Option Refusal) (store : Store) (done : Reply × Store) (refusal : Refusal)
    → is_refused done.0 ≡ false → (unless_refused o store done).0 ≡ Refused refusal → o ≡ Some refusal
told_cause (Some cause) store done refusal allowed is =
    let same : cause ≡ refusal = cc in ap (λ (r : Refusal). Some r) same
told_cause None store done refusal allowed is =
    absurd (true≢false (sym (ap (λ (r : Reply). is_refused r) is) ∙ allowed))

front_of_both : (a b : Bool) → (a && b) ≡ true → a ≡ true
front_of_both true b both = refl
front_of_both false b both = both

-- the refusal of a tree, whose store this is afterwards
refused_by : (store after : Store) (tree : Tree) (refusal : Refusal)
    → import_refusal slot_limit store tree after ≡ Some refusal → RefusesIntake refusal
refused_by store after tree refusal is =
    cause (nat_lt most_rows (row_count tree)) (nat_lt end_of_ids after.ids.page) (nat_lt end_of_ids after.ids.item)
    (is_full slot_limit (live_slots store) (live_slots after)) (row_count tree) (live_slots after) refusal
    (ltb-true most_rows (row_count tree))
    (λ full. ltb-true slot_limit (live_slots after) (front_of_both (nat_lt slot_limit (live_slots after))
    (nat_lt (live_slots store) (live_slots after)) full)) is

tree_refused : (intake : Intake) (store : Store) (tree : Tree) (refusal : Refusal)
    → (perform slot_limit store (tree_command intake tree)).0 ≡ Refused refusal → RefusesIntake refusal
tree_refused Import store tree refusal is = let after = imported tree store in
    refused_by store after tree refusal (told_cause (import_refusal slot_limit store tree after) store
    (import_reply store tree, after) refusal refl is)
tree_refused Restore store tree refusal is = let after = restored tree store in
    refused_by store after tree refusal (told_cause (import_refusal slot_limit store tree after) store
    (restore_reply store tree, after) refusal refl is)

-- the refusal of an intake is one of these
pub intake_refused : (limit : ℕ) (store next : Store) (command : Command) (reply : Reply) (refusal : Refusal)
    → limit ≡ slot_limit → IsIntake command → (reply, next) ≡ perform limit store command
    → reply ≡ Refused refusal → RefusesIntake refusal
intake_refused limit store next command reply refusal at intake step is =
    tree_refused intake.0 store intake.1 refusal
    (ap (λ (c : Command). (perform slot_limit store c).0) (sym intake.2)
    ∙ ap (λ (l : ℕ). (perform l store command).0) (sym at)
    ∙ ap (λ (d : Reply × Store). d.0) (sym step) ∙ is)
