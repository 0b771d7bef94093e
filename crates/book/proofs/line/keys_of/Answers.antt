use Rattle.std.proofs.Common.{sym, ◌∙◌, true≢false, arith}
use Rattle.book.proofs.KeyLine.{refuted, wrong_word, wrong_key, wrong_id, wrong_own, wrong_peer, good_line}
use Rattle.book.proofs.line.keys_of.Goals as goal
use Rattle.book.proofs.line.keys_of.Goals.{then-not-is_parted-via-then-not-is_parted, then-not-is_parted-via-else-not-is_parted+then-not-equal}

-- With the tabs in their places, each field decides by itself.
pub returns-then-not-is_parted-clause-good_value : goal.returns-then-not-is_parted-clause-good_value
returns-then-not-is_parted-clause-good_value c = elim c.then-not-is_parted.branch [
  | then-not-is_parted-via-then-not-is_parted w ↦ refuted _ (λ e. true≢false (sym (c.is_parted.ensures.value e) ∙ w.if-not-is_parted.true))
  | then-not-is_parted-via-else-not-is_parted+then-not-equal w ↦
      refuted _ (wrong_word c.args.line.now (c.is_parted.ensures.key_tabs w.if-not-is_parted.false) (sym w.equal.ensures ∙ w.if-not-equal.true))
]

pub returns-in_err-key-clause-good_value : goal.returns-in_err-key-clause-good_value
returns-in_err-key-clause-good_value c = rw c.from_residual.ensures (refuted _ (wrong_key c.args.line.now (c.is_parted.ensures.key_tabs c.if-not-is_parted.false) c.in_err-key.ensures))

pub returns-then-key_id-gt-MOST_KEY_ID-clause-good_value : goal.returns-then-key_id-gt-MOST_KEY_ID-clause-good_value
returns-then-key_id-gt-MOST_KEY_ID-clause-good_value c =
    refuted _ (wrong_id c.args.line.now (c.is_parted.ensures.key_tabs c.if-not-is_parted.false) (omega (arith, c.if-key_id-gt-MOST_KEY_ID.true, c.digit_of-key_id.ensures)))

pub returns-in_err-own-clause-good_value : goal.returns-in_err-own-clause-good_value
returns-in_err-own-clause-good_value c = rw c.from_residual-in_err-own.ensures (refuted _ (wrong_own c.args.line.now (c.is_parted.ensures.key_tabs c.if-not-is_parted.false) c.in_err-own.ensures))

pub returns-in_err-peer-clause-good_value : goal.returns-in_err-peer-clause-good_value
returns-in_err-peer-clause-good_value c = rw c.from_residual-in_err-peer.ensures (refuted _ (wrong_peer c.args.line.now (c.is_parted.ensures.key_tabs c.if-not-is_parted.false) c.in_err-peer.ensures))

pub returns : goal.returns
returns c =
    let p = good_line c.args.line.now (c.is_parted.ensures.key_tabs c.if-not-is_parted.false) _ (sym c.equal.ensures ∙ c.if-not-equal.false) c.in_ok-key.ensures c.digit_of-key_id.ensures (omega (arith, c.if-key_id-gt-MOST_KEY_ID.false)) c.in_ok-own.ensures c.in_ok-peer.ensures in
    record { good_value = p.0; given = p.1 }
