-- Each column after the ones before it.
use mathlib.Core.Path.{refl}
use Rattle.sheet_write.specs.Laws.Put.{put-numbers}
use Rattle.sheet_write.proofs.put_numbers.Goals as goal

pub returns : goal.returns
returns c =
    let A = c.args in (
      refl,
      put-numbers A.out.now A.at A.w A.k A.a A.b A.c A.l c.requires.1
          c.put_column.ensures c.put_column-2.ensures c.put_column-3.ensures c.put_column-4.ensures c.put_column-5.ensures,
    )
