-- A spelling is read as such; of raw bytes the one at the place is next.
use Rattle.text.proofs.Seeing.{next-spelled, raw_end, raw_byte}
use Rattle.text.proofs.walk.next_meant.Goals as goal

pub returns-then-not-raw : goal.returns-then-not-raw
returns-then-not-raw c = let q = c.args in next-spelled q.s.now q.c _ c.if-not-raw.true c.next_byte.ensures

pub returns-then-s-at : goal.returns-then-s-at
returns-then-s-at c = let q = c.args in raw_end q.s.now q.c c.if-not-raw.false c.if-s-at.true

pub returns : goal.returns
returns c =
    let q = c.args in raw_byte q.s.now q.c c.if-not-raw.false _ c.if-s-at.false c.cursor_at.ensures
