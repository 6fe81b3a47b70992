use Rattle.std.proofs.Common.{arith, refl}
use Rattle.command_line.proofs.ValueLemmas.{all_texts, no_texts, texts_more}
use Rattle.rail_codes.specs.WagonNumber.{wagon_number_of}
use Rattle.command_line.proofs.office_options.leaving.Goals as goal

pub loop-text-init : goal.loop-text-init
loop-text-init c = no_texts wagon_number_of c.args.texts.now _ c.in_ok-wagons.ensures.items

pub loop-text-preserved : goal.loop-text-preserved
loop-text-preserved c =
    texts_more wagon_number_of c.args.texts.now c.loop-text.wagons.items _ c.loop-text.text-index _ _ _ (omega arith) refl c.loop-text.invariant
    c.in_ok-push.ensures.items c.in_ok-code_from.ensures

pub returns : goal.returns
returns c = all_texts wagon_number_of c.args.texts.now c.loop-text.wagons.items c.loop-text.text-index (omega arith) c.loop-text.invariant
