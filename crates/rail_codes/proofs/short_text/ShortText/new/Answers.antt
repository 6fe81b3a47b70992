use Rattle.rail_codes.proofs.ShortTexts.{IsPadded-padded, text_in-padded}
use Rattle.rail_codes.proofs.short_text.ShortText.new.Goals as goal

pub invariant_of-result : goal.invariant_of-result
invariant_of-result g c =
    rw c.padded.ensures (IsPadded-padded g.row.ROOM c.args.text.now c.requires.room c.requires.ascii c.requires.no_nul)

pub returns : goal.returns
returns g c = rw c.padded.ensures (text_in-padded g.row.ROOM c.args.text.now c.requires.no_nul)
