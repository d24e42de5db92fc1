-- An escape \u of ASCII, or one by two bytes that stands for a byte.
use Rattle.character.proofs.Escapes.{short_is}
use Rattle.text.proofs.Packed.{char-coded, short-coded}
use Rattle.text.proofs.codes.escape_code.Goals as goal

pub returns-then-b-lt128 : goal.returns-then-b-lt128
returns-then-b-lt128 c h =
    char-coded c.args.s.now c.args.at c.requires.0 _ (c.escaped-b.ensures c.if-b-lt128.true) (c.pack.ensures h)

pub returns : goal.returns
returns c h =
    let k = short_is _ c.in-Some.ensures in
    short-coded c.args.s.now c.args.at c.requires.0 c.in-Some.c c.requires.1 c.byte_at.ensures k.0 k.1 (c.pack-2.ensures h)
