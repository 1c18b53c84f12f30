-- What the test whether views are the same says.
use Rattle.std.proofs.Common.{◌≡◌, ◌==◌, ◌&&◌, Bool, bytes_eq, int_eq}
use Rattle.std.specs.Bool.{Decides}
use Rattle.std.proofs.Math.Bool.{beq}
use Rattle.std.specs.Cmp.{booleans_Decides}
use Rattle.std.proofs.lemmas.Bool.Decides.{Decides-eqb, Decides-int_eq}
use Rattle.std.proofs.lemmas.Slice.Eq.{bytes_eq-Decides}
use Rattle.pl_base.specs.declared.view.View.{View}
use Rattle.pl_changes.proofs.SameFigures.{Tells, and_part, dates_decide, days_decide, last_part, same_date, same_day}

-- the test from the date of the latest visit on
abbrev same_end : View → View → Bool
same_end a b =
    same_date a.last b.last
    && (same_day a.due b.due
    && (beq a.typed b.typed
    && (beq a.hidden b.hidden && (beq a.bookmarked b.bookmarked && beq a.referenced b.referenced))))

-- the views are the same, part by part
abbrev pub same_view : View → View → Bool
same_view a b =
    (a.id.0 == b.id.0)
    && (bytes_eq a.url b.url
    && (bytes_eq a.title b.title
    && (bytes_eq a.mark_title b.mark_title
    && (bytes_eq a.tags b.tags
    && (bytes_eq a.prefix b.prefix
    && (bytes_eq a.host b.host
    && (int_eq a.frecency b.frecency && ((a.count == b.count) && same_end a b))))))))

-- the parts of two views are the same
abbrev AreSameParts : View → View → Type 0
AreSameParts a b =
    (a.id.0 ≡ b.id.0) × ((a.url ≡ b.url) × ((a.title ≡ b.title) × ((a.mark_title ≡ b.mark_title)
    × ((a.tags ≡ b.tags) × ((a.prefix ≡ b.prefix) × ((a.host ≡ b.host) × ((a.frecency ≡ b.frecency)
    × ((a.count ≡ b.count) × ((a.last ≡ b.last) × ((a.due ≡ b.due) × ((a.typed ≡ b.typed)
    × ((a.hidden ≡ b.hidden) × ((a.bookmarked ≡ b.bookmarked) × (a.referenced ≡ b.referenced))))))))))))))

whole : {a b : View} → AreSameParts a b → a ≡ b
whole (id, (url, (title, (mark, (tags, (prefix, (host, (score, (count, (last, (due, (typed, (hid, (kept, had)))))))))))))) =
    λ i. record {
      id = record { 0 = id i };
      url = url i;
      title = title i;
      mark_title = mark i;
      tags = tags i;
      prefix = prefix i;
      host = host i;
      frecency = score i;
      count = count i;
      last = last i;
      due = due i;
      typed = typed i;
      hidden = hid i;
      bookmarked = kept i;
      referenced = had i;
    }

pub views_decide : (a b : View) → Decides (same_view a b) (a ≡ b)
views_decide a b =
    let parts : Tells a b (same_view a b) (AreSameParts a b) =
    and_part (λ (v : View). v.id.0) a b (a.id.0 == b.id.0) (Decides-eqb a.id.0 b.id.0) _
    (and_part (λ (v : View). v.url) a b (bytes_eq a.url b.url) (bytes_eq-Decides a.url b.url) _
    (and_part (λ (v : View). v.title) a b (bytes_eq a.title b.title) (bytes_eq-Decides a.title b.title) _
    (and_part (λ (v : View). v.mark_title) a b (bytes_eq a.mark_title b.mark_title)
    (bytes_eq-Decides a.mark_title b.mark_title) _
    (and_part (λ (v : View). v.tags) a b (bytes_eq a.tags b.tags) (bytes_eq-Decides a.tags b.tags) _
    (and_part (λ (v : View). v.prefix) a b (bytes_eq a.prefix b.prefix) (bytes_eq-Decides a.prefix b.prefix) _
    (and_part (λ (v : View). v.host) a b (bytes_eq a.host b.host) (bytes_eq-Decides a.host b.host) _
    (and_part (λ (v : View). v.frecency) a b (int_eq a.frecency b.frecency) (Decides-int_eq a.frecency b.frecency) _
    (and_part (λ (v : View). v.count) a b (a.count == b.count) (Decides-eqb a.count b.count) (same_end a b)
    (and_part (λ (v : View). v.last) a b (same_date a.last b.last) (dates_decide a.last b.last) _
    (and_part (λ (v : View). v.due) a b (same_day a.due b.due) (days_decide a.due b.due) _
    (and_part (λ (v : View). v.typed) a b (beq a.typed b.typed) (booleans_Decides a.typed b.typed) _
    (and_part (λ (v : View). v.hidden) a b (beq a.hidden b.hidden) (booleans_Decides a.hidden b.hidden) _
    (and_part (λ (v : View). v.bookmarked) a b (beq a.bookmarked b.bookmarked)
    (booleans_Decides a.bookmarked b.bookmarked) _
    (last_part (λ (v : View). v.referenced) a b (beq a.referenced b.referenced)
    (booleans_Decides a.referenced b.referenced))))))))))))))) in
    (λ is. whole {a = a} {b = b} (parts.0 is), parts.1)
