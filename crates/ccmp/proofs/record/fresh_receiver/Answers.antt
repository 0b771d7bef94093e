use Rattle.std.proofs.Common.{◌≡◌, true, false, sym, ◌∙◌}
use Rattle.rules.specs.Records.{receiver_fits, receiver_answer, fresh_receiver}
use Rattle.ccmp.proofs.record.fresh_receiver.Goals as goal

-- The key ID and the size fit or they don't.
pub returns-then-not-receiver_fits : goal.returns-then-not-receiver_fits
unfolding receiver_answer fresh_receiver
returns-then-not-receiver_fits c =
    let e : receiver_fits c.args.key_id c.args.size ≡ false = sym c.receiver_fits.ensures ∙ c.if-not-receiver_fits.true in
    record { answer_value = rw e; receiver_value = rw e c.new_receiver-receiver.ensures }

pub returns : goal.returns
unfolding receiver_answer fresh_receiver
returns c =
    let e : receiver_fits c.args.key_id c.args.size ≡ true = sym c.receiver_fits.ensures ∙ c.if-not-receiver_fits.false in
    record { answer_value = rw e; receiver_value = rw e c.new_receiver-receiver-2.ensures }
