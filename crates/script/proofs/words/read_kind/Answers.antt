use Rattle.std.proofs.Common.{codes, arith}
use Rattle.std.proofs.lemmas.Slice.Eq.{text_from_reads}
use Rattle.script.proofs.words.read_kind.Goals as goal

pub returns-in-chess : goal.returns-in-chess
returns-in-chess c =
    rw (text_from_reads c.args.word.now (codes "chess") (omega arith)
    (omega arith, (omega arith, (omega arith, (omega arith, (omega arith, tt))))))

pub returns-in-bridge : goal.returns-in-bridge
returns-in-bridge c =
    rw (text_from_reads c.args.word.now (codes "bridge") (omega arith)
    (omega arith, (omega arith, (omega arith, (omega arith, (omega arith, (omega arith, tt)))))))
