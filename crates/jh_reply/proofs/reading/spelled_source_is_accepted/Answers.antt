use Rattle.jh_reply.proofs.reading.spelled_source_is_accepted.Goals as goal

-- src/reading.rt
pub returns : goal.returns
returns c = λ bytes tree h. c.spelled_is_accepted.ensures h.parsed.tokens tree (c.shape_of_tokens.ensures.shape bytes h.parsed.tokens h.parsed.cut) (c.places_rise.ensures bytes h.parsed.tokens h.parsed.cut) h.parsed.spelled h.typed
