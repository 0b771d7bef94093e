use Rattle.std.proofs.Common.{◌*◌, length, refl, sym, ◌∙◌, arith, eqb-true}
use Rattle.rules.specs.Limits.{key_octets, address_octets}
use Rattle.book.specs.Line.{key_word}
use Rattle.book.specs.Handed.{key_at, key_id_at, own_at}
use Rattle.book.proofs.KeyLine.{places_of, tabs_of, never, found_at, at_found}
use Rattle.book.proofs.Parts.{rest_of}
use Rattle.book.proofs.line.is_parted.Goals as goal
use Rattle.book.proofs.line.is_parted.Goals.{then-line-eq-PEER_END, else-line-eq-PEER_END, then-eq, else-eq, then-eq-2, else-eq-2}

-- The tabs of a good line 1 stand in known places, and where they do its fields are known.
pub returns-then-eq-3-clause-key_tabs : goal.returns-then-eq-3-clause-key_tabs
returns-then-eq-3-clause-key_tabs c = λ e.
    let l = c.args.line.now in
    elim c.if-eq-2.branch [
      | then-eq-2 w₂ ↦ elim c.if-eq.branch [
        | then-eq w₁ ↦ elim c.if-line-eq-PEER_END.branch [
          | then-line-eq-PEER_END w₀ ↦ tabs_of l (record {
            size = w₀.if-line-eq-PEER_END.true;
            tab_0 = at_found l 0 (length key_word) l refl _ w₀.find.ensures _ w₀.eq.ensures (sym w₀.value-is ∙ w₁.if-eq.true);
            tab_1 = at_found l key_at (2 * key_octets) _ (rest_of l key_at) _ w₁.find-then-eq.ensures _ w₁.eq-then-eq.ensures (sym w₁.value-is ∙ w₂.if-eq-2.true);
            tab_2 = at_found l key_id_at 1 _ (rest_of l key_id_at) _ w₂.find-then-eq-2.ensures _ w₂.eq-then-eq-2.ensures (sym w₂.value-is ∙ c.if-eq-3.true);
            tab_3 = at_found l own_at (2 * address_octets) _ (rest_of l own_at) _ c.find-then-eq-3.ensures _ c.eq-then-eq-3.ensures e;
          })
          | else-line-eq-PEER_END w₀ ↦ absurd (w₀.if-line-eq-PEER_END.false (eqb-true _ _ (sym w₀.value-is ∙ w₁.if-eq.true)))
        ]
        | else-eq w₁ ↦ never (sym w₁.if-eq.false ∙ sym w₁.value-is ∙ w₂.if-eq-2.true)
      ]
      | else-eq-2 w₂ ↦ never (sym w₂.if-eq-2.false ∙ sym w₂.value-is ∙ c.if-eq-3.true)
    ]

pub returns-then-eq-3-clause-value : goal.returns-then-eq-3-clause-value
returns-then-eq-3-clause-value c = λ e.
    let l = c.args.line.now in
    let p = places_of l e in
    found_at l own_at (2 * address_octets) _ (rest_of l own_at) _ c.find-then-eq-3.ensures _ c.eq-then-eq-3.ensures (omega (arith, p.size)) p.tab_3

pub returns-else-eq-3-clause-value : goal.returns-else-eq-3-clause-value
returns-else-eq-3-clause-value c = λ e.
    let l = c.args.line.now in
    let p = places_of l e in
    elim c.if-eq-2.branch [
      | then-eq-2 w₂ ↦ w₂.value-is ∙ found_at l key_id_at 1 _ (rest_of l key_id_at) _ w₂.find-then-eq-2.ensures _ w₂.eq-then-eq-2.ensures (omega (arith, p.size)) p.tab_2
      | else-eq-2 w₂ ↦ elim c.if-eq.branch [
        | then-eq w₁ ↦ never (sym w₂.if-eq-2.false ∙ w₁.value-is ∙ found_at l key_at (2 * key_octets) _ (rest_of l key_at) _ w₁.find-then-eq.ensures _ w₁.eq-then-eq.ensures (omega (arith, p.size)) p.tab_1)
        | else-eq w₁ ↦ elim c.if-line-eq-PEER_END.branch [
          | then-line-eq-PEER_END w₀ ↦ never (sym w₁.if-eq.false ∙ w₀.value-is ∙ found_at l 0 (length key_word) l refl _ w₀.find.ensures _ w₀.eq.ensures (omega (arith, p.size)) p.tab_0)
          | else-line-eq-PEER_END w₀ ↦ absurd (w₀.if-line-eq-PEER_END.false p.size)
        ]
      ]
    ]
