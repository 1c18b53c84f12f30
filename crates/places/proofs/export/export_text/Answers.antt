use Rattle.std.proofs.Common.{◌≡◌, None}
use Rattle.pl_nbread.specs.BookmarkFile.{offset}
use Rattle.pl_nbread.specs.BookmarkTree.{tree_of}
use Rattle.pl_nbread.specs.declared.tree.Tree.{Tree}
use Rattle.pl_nbwrite.specs.BookmarkText.{file_text}
use Rattle.pl_nbwrite.specs.Plain.{IsPlain}
use Rattle.pl_store.specs.Session.{reader_store}
use Rattle.places.specs.Exporting.{ComesBack}
use Rattle.places.proofs.ExportLemmas.{comes_back, if_ok_all}
use Rattle.places.proofs.export.export_text.Goals as goal

pub returns-clause-returns : goal.returns-clause-returns
returns-clause-returns c =
    let tree : Tree = c.in_ok-tree.field-0 in
    let told = c.in_ok-tree.ensures in
    if_ok_all c.text.result (λ text. text ≡ file_text tree) (λ text. offset text ≡ None)
    (λ text. IsPlain tree → tree_of text ≡ tree) (λ text. ComesBack (reader_store c.args.reader.now))
    c.text.ensures.text c.text.ensures.taken c.text.ensures.reads
    (λ text written taken reads.
    comes_back (reader_store c.args.reader.now) tree text told.tree told.plain told.returns written taken reads)
