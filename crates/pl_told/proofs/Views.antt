-- What the views of a store tell of its origins.
use Rattle.std.proofs.Common.{◌≡◌, ◌≢◌, ◌∙◌, ◌≤◌, ◌==◌, ℕ, List, [], ◌∷◌, ap, arith, eq-eqb, filter}
use Rattle.std.proofs.Common.{if◌then◌else◌, length, refl, sym, Ok, Err, Bool}
use Rattle.std.specs.List.{filter_map}
use Rattle.std.specs.Option.{option_map}
use Rattle.std.specs.Result.{IsOkAnd}
use Rattle.std.proofs.lemmas.Bool.{ne_eqb}
use Rattle.std.proofs.lemmas.List.{length-map}
use Rattle.std.proofs.lemmas.List.Sums.{count_by-le-length, length-filter}
use Rattle.url.specs.Parser.{Parsed}
use Rattle.url.specs.Parts.{Parts as Record}
use Rattle.pl_base.specs.declared.refusal.Refusal.TheVariants.{NoPage}
use Rattle.pl_base.specs.declared.view.View.{View}
use Rattle.pl_base.specs.Address.{origin_of_url}
use Rattle.pl_base.specs.Frecency.{frecency_of}
use Rattle.pl_base.specs.Store.{Page, Store}
use Rattle.pl_base.specs.Totals.{Origin, Scored, is_origin, scored_pages, total_of}
use Rattle.pl_base.specs.View.{AreViews, AreViewsOf, scored_views}
use Rattle.pl_base.proofs.ListLaws.{sum_by-map}
use Rattle.pl_link.specs.declared.parts.Parts.{Parts}
use Rattle.pl_link.specs.Parts.{ArePartsOf}
use Rattle.pl_step.specs.declared.reply.Reply.{Reply}
use Rattle.pl_step.specs.declared.reply.Reply.TheVariants.{Origin as OriginReply, Refused}
use Rattle.pl_step.specs.Step.{origin_passes, pages_of, told_origin}
use Rattle.pl_totals.specs.Standing.{has_origin}
use Rattle.pl_totals.specs.Standing as held

scored : (store : Store) (ps : List Page) (vs : List View) → AreViews store ps vs
    → scored_views vs
    ≡ filter_map (λ (p : Page). option_map (λ (o : Origin). (o, frecency_of store p)) (origin_of_url p.url)) ps
scored store [] [] are = refl
scored store [] (v ∷ vs) are = absurd are
scored store (p ∷ ps) [] are = absurd are
scored store (p ∷ ps) (v ∷ vs) are =
    let rest = scored store ps vs are.1 in
    rw (are.0.origin, ← are.0.frecency) (ap (λ (ss : List Scored). ((v.prefix, v.host), v.frecency) ∷ ss) rest)

-- the origins of the views are those of the pages, with their frecencies
pub scored_same : (store : Store) (views : List View) → AreViewsOf store views
    → scored_views views ≡ scored_pages store
scored_same store views are = scored store store.pages views are

-- ---- an origin

-- what is told of the origin with these parts
abbrev pub told_by : List Scored → Parts → Reply
told_by pages parts =
    if pages_of pages (parts.prefix, parts.host) == 0 then Refused NoPage else
    OriginReply parts.prefix parts.host parts.rev_host (total_of pages (parts.prefix, parts.host))
    (pages_of pages (parts.prefix, parts.host)) (origin_passes pages (parts.prefix, parts.host))

pub told_by_parts : (pages : List Scored) (url : Parsed Record) (parts : Parts)
    → IsOkAnd url (λ found. ArePartsOf found parts) → told_by pages parts ≡ told_origin pages url
told_by_parts pages (Ok found) parts are = rw (are.prefix, are.host, are.rev_host) refl
told_by_parts pages (Err e) parts are = absurd are

pub none_told : (pages : List Scored) (url : Parsed Record) (parts : Parts) (count : ℕ)
    → IsOkAnd url (λ found. ArePartsOf found parts) → count ≡ pages_of pages (parts.prefix, parts.host)
    → count ≡ 0 → Refused NoPage ≡ told_origin pages url
none_told pages url parts count are is none =
    sym (ap (λ (b : Bool). if b then Refused NoPage else
    OriginReply parts.prefix parts.host parts.rev_host (total_of pages (parts.prefix, parts.host))
    (pages_of pages (parts.prefix, parts.host)) (origin_passes pages (parts.prefix, parts.host)))
    (eq-eqb (pages_of pages (parts.prefix, parts.host)) 0 (sym is ∙ none)))
    ∙ told_by_parts pages url parts are

pub some_told : (pages : List Scored) (url : Parsed Record) (parts : Parts) (count total : ℕ) (passes : Bool)
    → IsOkAnd url (λ found. ArePartsOf found parts) → count ≡ pages_of pages (parts.prefix, parts.host)
    → count ≢ 0 → total ≡ total_of pages (parts.prefix, parts.host)
    → passes ≡ origin_passes pages (parts.prefix, parts.host)
    → OriginReply parts.prefix parts.host parts.rev_host total count passes ≡ told_origin pages url
some_told pages url parts count total passes are is some totals passing =
    rw (totals, passing, is)
    (sym (ap (λ (b : Bool). if b then Refused NoPage else
    OriginReply parts.prefix parts.host parts.rev_host (total_of pages (parts.prefix, parts.host))
    (pages_of pages (parts.prefix, parts.host)) (origin_passes pages (parts.prefix, parts.host)))
    (ne_eqb (pages_of pages (parts.prefix, parts.host)) 0 (λ none. some (is ∙ none)))))
    ∙ told_by_parts pages url parts are

-- the pages of an origin that totals tell are as many as the definition counts
pub counted : (views : List View) (origin : Origin)
    → length (held.pages_of origin views) ≡ pages_of (scored_views views) origin
counted views origin =
    length-map (filter (has_origin origin) views) (λ (v : View). v.id)
    ∙ length-filter (has_origin origin) views
    ∙ sym (sum_by-map (λ (s : Scored). if is_origin s.0 origin then 1 else 0)
    (λ (v : View). ((v.prefix, v.host), v.frecency)) views)

-- no origin has more pages than there are views
pub few_pages : (views : List View) (origin : Origin) → pages_of (scored_views views) origin ≤ length views
few_pages views origin =
    let seen : View → Scored = λ (v : View). ((v.prefix, v.host), v.frecency) in
    omega (
      arith,
      count_by-le-length (λ (s : Scored). is_origin s.0 origin) (scored_views views),
      length-map views seen,
    )
