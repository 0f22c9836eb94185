mod SchemaSteps
