mod ChargeLaws
