use Rattle.std.proofs.Common.{refl}
use Rattle.der_cursor.proofs.FormatLaws.{value_read}
use Rattle.der_cursor.proofs.Sequences.{after, content_named_in, finish_with, named, named_in, start_as, stops, stops_never, stops_with}
use Rattle.der_cursor.specs.Formats.{Others}
use Rattle.messages.proofs.ldap.reader.read_search.Goals as goal

pub returns-in_err-base : goal.returns-in_err-base
returns-in_err-base c = λ fresh. stops_never _ (start_as _ _ fresh)
    (named _ (value_read _ c.octets.ensures) c.in_err-base.ensures) c.from_residual.ensures.1

pub returns-in_err-scope : goal.returns-in_err-scope
returns-in_err-scope c = λ fresh. stops_never _ (after (start_as _ _ fresh) (named _ (value_read _ c.octets.ensures) c.in_ok-base.ensures))
    (named _ (value_read _ c.enumerated.ensures) c.in_err-scope.ensures) c.from_residual-in_err-scope.ensures.1

pub returns-in_err-aliases : goal.returns-in_err-aliases
returns-in_err-aliases c = λ fresh. stops_never _ (after (after (start_as _ _ fresh) (named _ (value_read _ c.octets.ensures) c.in_ok-base.ensures)) (named _ (value_read _ c.enumerated.ensures) c.in_ok-scope.ensures))
    (named _ (value_read _ c.enumerated-2.ensures) c.in_err-aliases.ensures) c.from_residual-in_err-aliases.ensures.1

pub returns-in_err-size_limit : goal.returns-in_err-size_limit
returns-in_err-size_limit c = λ fresh. stops_never _ (after (after (after (start_as _ _ fresh) (named _ (value_read _ c.octets.ensures) c.in_ok-base.ensures)) (named _ (value_read _ c.enumerated.ensures) c.in_ok-scope.ensures)) (named _ (value_read _ c.enumerated-2.ensures) c.in_ok-aliases.ensures))
    (named _ (value_read _ c.u32.ensures) c.in_err-size_limit.ensures) c.from_residual-in_err-size_limit.ensures.1

pub returns-in_err-time_limit : goal.returns-in_err-time_limit
returns-in_err-time_limit c = λ fresh. stops_never _ (after (after (after (after (start_as _ _ fresh) (named _ (value_read _ c.octets.ensures) c.in_ok-base.ensures)) (named _ (value_read _ c.enumerated.ensures) c.in_ok-scope.ensures)) (named _ (value_read _ c.enumerated-2.ensures) c.in_ok-aliases.ensures)) (named _ (value_read _ c.u32.ensures) c.in_ok-size_limit.ensures))
    (named _ (value_read _ c.u32-2.ensures) c.in_err-time_limit.ensures) c.from_residual-in_err-time_limit.ensures.1

pub returns-in_err-types_only : goal.returns-in_err-types_only
returns-in_err-types_only c = λ fresh. stops_never _ (after (after (after (after (after (start_as _ _ fresh) (named _ (value_read _ c.octets.ensures) c.in_ok-base.ensures)) (named _ (value_read _ c.enumerated.ensures) c.in_ok-scope.ensures)) (named _ (value_read _ c.enumerated-2.ensures) c.in_ok-aliases.ensures)) (named _ (value_read _ c.u32.ensures) c.in_ok-size_limit.ensures)) (named _ (value_read _ c.u32-2.ensures) c.in_ok-time_limit.ensures))
    (named _ (value_read _ c.boolean.ensures) c.in_err-types_only.ensures) c.from_residual-in_err-types_only.ensures.1

pub returns-in_err-filter : goal.returns-in_err-filter
returns-in_err-filter c = λ fresh. stops _ (after (after (after (after (after (after (start_as _ _ fresh) (named _ (value_read _ c.octets.ensures) c.in_ok-base.ensures)) (named _ (value_read _ c.enumerated.ensures) c.in_ok-scope.ensures)) (named _ (value_read _ c.enumerated-2.ensures) c.in_ok-aliases.ensures)) (named _ (value_read _ c.u32.ensures) c.in_ok-size_limit.ensures)) (named _ (value_read _ c.u32-2.ensures) c.in_ok-time_limit.ensures)) (named _ (value_read _ c.boolean.ensures) c.in_ok-types_only.ensures))
    (named_in _ c.read_search_filter.ensures c.in_err-filter.ensures) c.from_residual-in_err-filter.ensures.1

pub returns-in_err-attributes : goal.returns-in_err-attributes
returns-in_err-attributes c = λ fresh. stops _ (after (after (after (after (after (after (after (start_as _ _ fresh) (named _ (value_read _ c.octets.ensures) c.in_ok-base.ensures)) (named _ (value_read _ c.enumerated.ensures) c.in_ok-scope.ensures)) (named _ (value_read _ c.enumerated-2.ensures) c.in_ok-aliases.ensures)) (named _ (value_read _ c.u32.ensures) c.in_ok-size_limit.ensures)) (named _ (value_read _ c.u32-2.ensures) c.in_ok-time_limit.ensures)) (named _ (value_read _ c.boolean.ensures) c.in_ok-types_only.ensures)) (named_in _ c.read_search_filter.ensures c.in_ok-filter.ensures))
    (named_in _ c.read_texts.ensures c.in_err-attributes.ensures) c.from_residual-in_err-attributes.ensures.1

pub returns-in_err-named : goal.returns-in_err-named
returns-in_err-named c = λ fresh. stops_with _ (after (after (after (after (after (after (after (after (start_as _ _ fresh) (named _ (value_read _ c.octets.ensures) c.in_ok-base.ensures)) (named _ (value_read _ c.enumerated.ensures) c.in_ok-scope.ensures)) (named _ (value_read _ c.enumerated-2.ensures) c.in_ok-aliases.ensures)) (named _ (value_read _ c.u32.ensures) c.in_ok-size_limit.ensures)) (named _ (value_read _ c.u32-2.ensures) c.in_ok-time_limit.ensures)) (named _ (value_read _ c.boolean.ensures) c.in_ok-types_only.ensures)) (named_in _ c.read_search_filter.ensures c.in_ok-filter.ensures)) (named_in _ c.read_texts.ensures c.in_ok-attributes.ensures))
    (content_named_in _ Others c.read_texts.new.list c.pass_over.ensures c.in_err-named.ensures) c.from_residual-in_err-named.ensures.1

pub returns : goal.returns
returns c = λ fresh. finish_with (after (after (after (after (after (after (after (after (start_as _ _ fresh) (named _ (value_read _ c.octets.ensures) c.in_ok-base.ensures)) (named _ (value_read _ c.enumerated.ensures) c.in_ok-scope.ensures)) (named _ (value_read _ c.enumerated-2.ensures) c.in_ok-aliases.ensures)) (named _ (value_read _ c.u32.ensures) c.in_ok-size_limit.ensures)) (named _ (value_read _ c.u32-2.ensures) c.in_ok-time_limit.ensures)) (named _ (value_read _ c.boolean.ensures) c.in_ok-types_only.ensures)) (named_in _ c.read_search_filter.ensures c.in_ok-filter.ensures)) (named_in _ c.read_texts.ensures c.in_ok-attributes.ensures))
    (content_named_in _ Others c.read_texts.new.list c.pass_over.ensures c.in_ok-named.ensures) refl
