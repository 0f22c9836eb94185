use Rattle.std.proofs.lemmas.Result.{on_ok_weaker}
use Rattle.jh_reach.proofs.Standings.{fields-are}
use Rattle.jh_fca.specs.local_form.Chains.{led_from}
use Rattle.jh_local_form.specs.field_lists.Leading.{with_backbones}
use Rattle.jh_local_form.proofs.field_lists.Reached.{led-begun}
use Rattle.jh_local_form.proofs.field_lists.reaching.add_list.Goals as goal

pub add_led-requires-clause-fields : goal.add_led-requires-clause-fields
add_led-requires-clause-fields c = fields-are c.args.table.now c.in_ok-fields.fields.items c.requires.list.0 (c.in_ok-fields.ensures c.requires.list.0 c.requires.list.1)

pub returns-clause-made : goal.returns-clause-made
returns-clause-made c =
    on_ok_weaker c.add_led.result
    (λ h cs fs bs are is done. h cs (with_backbones bs (led_from fs cs)) are (led-begun c.args.table.now c.args.made.now.items bs c.in_ok-fields.fields.items cs fs done (c.in_ok-fields.ensures fs is)))
    c.add_led.ensures.made
