use Rattle.std.proofs.Common.{◌≡◌, ◌∙◌, ℕ, List, ap, length, take, drop, sym, subst}
use Rattle.std.proofs.lemmas.List.{length-take, take_min}
use Rattle.std.proofs.lemmas.Result.{err_from_is_err_and}
use Rattle.pl_base.specs.Rows.{store_of}
use Rattle.pl_base.specs.Touched.{bytes_before, page_size}
use Rattle.pl_linked.specs.Linked.{bytes_of, kept_of}
use Rattle.pl_reading.specs.File.{first_header, front_bytes}
use Rattle.pl_record.specs.Form.{StandsFor}
use Rattle.pl_store.proofs.read.reader_of.Goals as goal

-- the store's bytes stand at the front
own_front : (bytes own : List ℕ) → own ≡ front_bytes bytes → take (length own) bytes ≡ own
own_front bytes own is =
    let most : ℕ = bytes_before (first_header bytes).pages in
    subst (λ (front : List ℕ). take (length front) bytes ≡ front) (sym is)
    (ap (λ (n : ℕ). take n bytes) (length-take most bytes) ∙ take_min most bytes)

pub returns-clause-read : goal.returns-clause-read
returns-clause-read c =
    let bytes = drop page_size c.args.bytes.items in let read = c.in_ok-rows.ensures in
    let own = c.in_ok-rows.rows in
    record {
      stands = read.stands;
      only = λ store held. read.one store (store_of (kept_of own)) held read.stands;
      begins = own_front bytes (bytes_of own) read.bytes;
      own_form = subst (λ (bs : List ℕ). StandsFor bs (store_of (kept_of own))) (sym read.bytes) read.stands;
    }

pub returns-in_err-rows-clause-not_a_store : goal.returns-in_err-rows-clause-not_a_store
returns-in_err-rows-clause-not_a_store c told =
    let p = err_from_is_err_and c.from_residual.result c.from_residual.ensures.1 in
    c.check.ensures.not_a_store
    (let was = c.in_err-rows.was in let both = sym p.1 ∙ told in let same = p.2 in cc)
