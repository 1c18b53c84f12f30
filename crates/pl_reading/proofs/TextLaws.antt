-- Texts that are read: they are those that are there.
use Rattle.std.proofs.Common.{◌≡◌, ◌∙◌, ℕ, List, None, Some, ap, length, refl, subst, sym}
use Rattle.pl_base.specs.declared.check_error.CheckError.{CheckError}
use Rattle.pl_base.specs.declared.check_error.CheckError.TheVariants.{NotAStore}
use Rattle.pl_base.specs.Address.{canon}
use Rattle.pl_link.specs.declared.canon.CanonError.{CanonError}
use Rattle.pl_link.specs.declared.canon.CanonError.TheVariants as canon_error
use Rattle.pl_link.specs.CheckErrors.{error_of}
use Rattle.pl_reading.specs.Read.{IsText}
use Rattle.pl_reading.specs.Texts.{IsHeld}
use Rattle.pl_record.specs.declared.rows.TextAt.{TextAt}
use Rattle.pl_sheets.specs.Sheets.{Pages}
use Rattle.pl_stored.specs.Fits.{IsUrl}
use Rattle.pl_text.specs.Chunks.{HoldsText}

pub is_text : (pages : Pages) (at : TextAt) (bytes text : List ℕ) → IsHeld pages at
    → ((t : List ℕ) → HoldsText at.slot t pages → bytes ≡ t) → text ≡ bytes → IsText pages at text
is_text pages at bytes text has read same =
    let is : text ≡ has.0 = same ∙ read has.0 has.1 in
    record {
      held = subst (λ (t : List ℕ). HoldsText at.slot t pages) (sym is) has.1;
      size = ap length is ∙ has.2;
    }

-- a text that gives no URL, or want of memory, is no URL of the store
pub refused_url : (part url : List ℕ) (e : CanonError) (told : CheckError)
    → (e ≡ canon_error.BadUrl → canon part ≡ None) → part ≡ url → IsUrl url → told ≡ error_of e → told ≡ NotAStore → ⊥
refused_url part url canon_error.BadUrl told none same one gives is =
    let no : canon part ≡ None = none refl in
    let some : canon part ≡ Some url = ap canon same ∙ one.1 in
    absurd (cc)
refused_url part url canon_error.NoMemory told none same one gives is = absurd (cc)

-- nor is one whose URL is another text
pub other_url : (part url found : List ℕ) → canon part ≡ Some found → part ≡ url → IsUrl url → found ≡ part
other_url part url found read same one =
    let some : canon part ≡ Some url = ap canon same ∙ one.1 in
    let equal : found ≡ url = cc in
    equal ∙ sym same
