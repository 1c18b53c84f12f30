use Rattle.std.proofs.Common.{rules}
use Rattle.std.specs.Prelude.{codes}
use Rattle.pl_script.proofs.Words.{EndsIn, is_word}
use Rattle.pl_script.proofs.field.word.Goals as goal

pub returns-in-folder : goal.returns-in-folder
returns-in-folder c =
    let ends : EndsIn c.args.field.now 0 (codes "folder") = search rules in
    is_word c.args.field.now (codes "folder") ends

pub returns-in-remove : goal.returns-in-remove
returns-in-remove c =
    let ends : EndsIn c.args.field.now 0 (codes "remove") = search rules in
    is_word c.args.field.now (codes "remove") ends

pub returns-in-retitle : goal.returns-in-retitle
returns-in-retitle c =
    let ends : EndsIn c.args.field.now 0 (codes "retitle") = search rules in
    is_word c.args.field.now (codes "retitle") ends

pub returns-in-bookmark : goal.returns-in-bookmark
returns-in-bookmark c =
    let ends : EndsIn c.args.field.now 0 (codes "bookmark") = search rules in
    is_word c.args.field.now (codes "bookmark") ends

pub returns-in-separator : goal.returns-in-separator
returns-in-separator c =
    let ends : EndsIn c.args.field.now 0 (codes "separator") = search rules in
    is_word c.args.field.now (codes "separator") ends

pub returns-in-untag : goal.returns-in-untag
returns-in-untag c =
    let ends : EndsIn c.args.field.now 0 (codes "untag") = search rules in
    is_word c.args.field.now (codes "untag") ends

pub returns-in-unvisit : goal.returns-in-unvisit
returns-in-unvisit c =
    let ends : EndsIn c.args.field.now 0 (codes "unvisit") = search rules in
    is_word c.args.field.now (codes "unvisit") ends

pub returns-in-forget : goal.returns-in-forget
returns-in-forget c =
    let ends : EndsIn c.args.field.now 0 (codes "forget") = search rules in
    is_word c.args.field.now (codes "forget") ends

pub returns-in-expire : goal.returns-in-expire
returns-in-expire c =
    let ends : EndsIn c.args.field.now 0 (codes "expire") = search rules in
    is_word c.args.field.now (codes "expire") ends

pub returns-in-origin : goal.returns-in-origin
returns-in-origin c =
    let ends : EndsIn c.args.field.now 0 (codes "origin") = search rules in
    is_word c.args.field.now (codes "origin") ends

pub returns-in-stats : goal.returns-in-stats
returns-in-stats c =
    let ends : EndsIn c.args.field.now 0 (codes "stats") = search rules in
    is_word c.args.field.now (codes "stats") ends

pub returns-in-title : goal.returns-in-title
returns-in-title c =
    let ends : EndsIn c.args.field.now 0 (codes "title") = search rules in
    is_word c.args.field.now (codes "title") ends

pub returns-in-visit : goal.returns-in-visit
returns-in-visit c =
    let ends : EndsIn c.args.field.now 0 (codes "visit") = search rules in
    is_word c.args.field.now (codes "visit") ends

pub returns-in-query : goal.returns-in-query
returns-in-query c =
    let ends : EndsIn c.args.field.now 0 (codes "query") = search rules in
    is_word c.args.field.now (codes "query") ends

pub returns-in-place : goal.returns-in-place
returns-in-place c =
    let ends : EndsIn c.args.field.now 0 (codes "place") = search rules in
    is_word c.args.field.now (codes "place") ends
