use Rattle.std.proofs.Common.{Some, None, ap, lit<, sym}
use Rattle.std.proofs.lemmas.Str.Pattern.{strip_prefix_char}
use Rattle.pl_nbread.proofs.ReferenceSteps.{behind_there, cut_behind, no_end_there, read_there, unread, unscalar}
use Rattle.pl_nbread.proofs.references.by_digits.Goals as goal

pub split_at-requires : goal.split_at-requires
split_at-requires c =
    cut_behind c.args.text.now c.args.radix c.digit_count.result c.requires.high c.digit_count.ensures c.utf8.text

pub returns-in_err-behind : goal.returns-in_err-behind
returns-in_err-behind c =
    let none = no_end_there c.args.radix c.requires.high c.args.text.now c.split_at.result.0.now
    c.split_at.result.1.now c.digit_count.result c.digit_count.ensures c.split_at.ensures.front c.split_at.ensures.back
    (strip_prefix_char 59 c.split_at.result.1.now None c.in_err-behind.ensures.cases (lit< tt)) in
    record { char = rw (c.from_residual.ensures, none); behind = rw (c.from_residual.ensures, none) }

pub returns-in_err-number : goal.returns-in_err-number
returns-in_err-number c =
    let none = unread c.args.radix c.requires.high c.args.text.now c.split_at.result.0.now c.split_at.result.1.now
    c.digit_count.result c.digit_count.ensures c.split_at.ensures.front c.split_at.ensures.back c.from_str_radix.result
    c.from_str_radix.ensures.value c.in_err-number.ensures.value in
    record {
      char = rw (c.from_residual-in_err-number.ensures, none);
      behind = rw (c.from_residual-in_err-number.ensures, none);
    }

pub returns-in_err-from_u32 : goal.returns-in_err-from_u32
returns-in_err-from_u32 c =
    let none = unscalar c.args.radix c.requires.high c.args.text.now c.split_at.result.0.now c.split_at.result.1.now
    c.digit_count.result c.digit_count.ensures c.split_at.ensures.front c.split_at.ensures.back c.from_str_radix.result
    c.in_ok-number.number c.from_str_radix.ensures.value c.in_ok-number.ensures.value
    c.in_err-from_u32.ensures.cases in
    record {
      char = rw (c.from_residual-in_err-from_u32.ensures, none);
      behind = rw (c.from_residual-in_err-from_u32.ensures, none);
    }

pub returns : goal.returns
returns c =
    let ends = strip_prefix_char 59 c.split_at.result.1.now (Some c.in_ok-behind.behind) c.in_ok-behind.ensures.cases
    (lit< tt) in
    let there = read_there c.args.radix c.requires.high c.args.text.now c.split_at.result.0.now
    c.split_at.result.1.now c.digit_count.result c.digit_count.ensures c.split_at.ensures.front c.split_at.ensures.back
    c.from_str_radix.result c.in_ok-number.number c.in_ok-behind.behind.now c.from_str_radix.ensures.value
    c.in_ok-number.ensures.value c.in_ok-from_u32.ensures.cases ends in
    record {
      char = rw there (ap Some c.in_ok-from_u32.ensures.value.1);
      behind = rw there
          (ap Some
          (sym (behind_there c.args.radix c.requires.high c.args.text.now c.split_at.result.0.now
          c.split_at.result.1.now c.digit_count.result c.digit_count.ensures c.split_at.ensures.front
          c.split_at.ensures.back c.in_ok-behind.behind.now ends)));
    }
