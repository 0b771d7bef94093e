use Rattle.book.proofs.Lines.{bad_laid}
use Rattle.book.proofs.answer.put_bad.Goals as goal

pub returns : goal.returns
returns c = bad_laid c.args.n _ _ c.requires c.decimal.ensures _ c.text.ensures
